-- What the question of a module's source comes to, by what its parts come to.
use Rattle.std.proofs.Common.{◌≡◌, Bool, ℕ, List, Option, Result, Ok, Err, refl, sym, ap, ◌∙◌, subst}
use Rattle.std.specs.Str.{is_utf8, IsUtf8}
use Rattle.std.specs.Str.Lossy.{utf8_valid_len}
use Rattle.std.proofs.lemmas.Bool.{cond-true, cond-false, false_from_ne_true}
use Rattle.std.proofs.lemmas.Str.{IsUtf8-from_is_utf8, is_utf8-from_IsUtf8}
use Rattle.asking_spec.specs.Askings.{answered}
use Rattle.tree_spec.specs.declared.Entry.{Entry}
use Rattle.tree_spec.specs.declared.LimitName.TheVariants.{Depth}
use Rattle.tree_spec.specs.LookAskings.{look_at}
use Rattle.module_spec.specs.declared.request.ModuleFault.{ModuleFault}
use Rattle.module_spec.specs.Outlines.{Outline, ReadsOutline}
use Rattle.module_spec.specs.OutlineReading.{read_outline}
use Rattle.module_spec.proofs.OutlineReadings.{outline_is_read}
use Rattle.node_spec.specs.declared.Reason.{Reason}
use Rattle.node_spec.specs.declared.Reason.TheVariants as reason
use Rattle.node_spec.specs.EsmFileFormat as spec
use Rattle.node_spec.specs.NodeAnswers.{Refusal, too_deep}
use Rattle.trace_spec.specs.Questions.{Source, NoSource, not_module, above, by_outline, by_bytes, by_entry, read_module, by_format, module_source}
use Rattle.package_lookup.specs.Answered.{State, Answered}
use Rattle.package_lookup.specs.Formats as lookup
use Rattle.package_lookup.specs.Responses.{Response, given, fails, never, by_fault, deep_config}
use Rattle.package_lookup.specs.declared.format.Format.{Format}
use Rattle.package_lookup.specs.declared.format.Format.TheVariants.{Module, Detect, Not}
use Rattle.package_lookup.specs.declared.fault.LookupFault.{LookupFault}
use Rattle.package_lookup.proofs.Questions.{then_given, now_given, fault_on, looked_on}

abbrev Found : Type 0
Found = Result Source NoSource

abbrev Known : Type 0
Known = Result spec.Format Refusal

-- a package.json with too many open brackets leaves the format open
abbrev pub deep_source : Response Found
deep_source = given (Err (above Depth))

-- ---- the format, and what comes behind it

pub without_format : (before after : State) (path : List ℕ) (fault : LookupFault) (response : Response Found)
    → response ≡ by_fault (fails never) deep_source fault
    → Answered before (spec.file_format path) (by_fault (fails never) deep_config fault) after
    → Answered before (module_source path) response after
without_format before after path fault response is a =
    subst (λ r. Answered before (module_source path) r after) (sym is)
    (fault_on before after (spec.file_format path) (by_format path) (fails never) deep_config (fails never) deep_source
    (λ failed. absurd (failed.possible refl))
    (λ deep. then_given before after after (spec.file_format path) (by_format path) (Err too_deep) deep_source deep
    (now_given after (Err (above Depth)))) fault a)

module _ (before middle after : State) (path : List ℕ) (response : Response Found) where
  behind : (found : Known) → Answered before (spec.file_format path) (given found) middle
      → Answered middle (by_format path found) response after → Answered before (module_source path) response after
  behind found a rest = then_given before middle after (spec.file_format path) (by_format path) found response a rest

  pub behind_format : (format : Format)
      → Answered before (spec.file_format path) (lookup.by_format format) middle
      → ((found : Known) → lookup.by_format format ≡ given found → Answered middle (by_format path found) response after)
      → Answered before (module_source path) response after
  behind_format Module a rest = behind (Ok spec.IsModule) a (rest (Ok spec.IsModule) refl)
  behind_format Detect a rest = behind (Ok spec.IsDetected) a (rest (Ok spec.IsDetected) refl)
  behind_format (Not reason.CommonJs) a rest = behind (Ok spec.IsCommonJs) a (rest (Ok spec.IsCommonJs) refl)
  behind_format (Not reason.Json) a rest = behind (Ok spec.IsJson) a (rest (Ok spec.IsJson) refl)
  behind_format (Not reason.Addon) a rest = behind (Ok spec.IsAddon) a (rest (Ok spec.IsAddon) refl)
  behind_format (Not reason.Other) a rest = behind (Ok spec.IsOther) a (rest (Ok spec.IsOther) refl)
  behind_format (Not reason.Config) a rest = behind (Ok spec.HasBadConfig) a (rest (Ok spec.HasBadConfig) refl)
  behind_format (Not (reason.Unreadable at)) a rest = absurd (a.possible refl)

-- ---- by the format

pub at_format : (before after : State) (path : List ℕ) (known found : Known) (response : Response Found)
    → given known ≡ given found → Answered before (by_format path known) response after
    → Answered before (by_format path found) response after
at_format before after path known found response e a =
    (let same : known ≡ found = cc in subst (λ f. Answered before (by_format path f) response after) same a)

abbrev pub refusing : Reason → Found
refusing why = Err (not_module why)

abbrev no_module : Reason → Response Found
no_module why = given (refusing why)

module _ (before : State) (path : List ℕ) (found : Known) where
  refused : (known : Known) (why : Reason) → given known ≡ given found
      → Answered before (by_format path known) (no_module why) before
      → Answered before (by_format path found) (no_module why) before
  refused known why e a = at_format before before path known found (no_module why) e a

  pub no_module_now : (why : Reason) → lookup.by_reason why ≡ given found
      → Answered before (by_format path found) (no_module why) before
  no_module_now reason.CommonJs e = refused (Ok spec.IsCommonJs) reason.CommonJs e (now_given before (Err (not_module reason.CommonJs)))
  no_module_now reason.Json e = refused (Ok spec.IsJson) reason.Json e (now_given before (Err (not_module reason.Json)))
  no_module_now reason.Addon e = refused (Ok spec.IsAddon) reason.Addon e (now_given before (Err (not_module reason.Addon)))
  no_module_now reason.Other e = refused (Ok spec.IsOther) reason.Other e (now_given before (Err (not_module reason.Other)))
  no_module_now reason.Config e = refused (Ok spec.HasBadConfig) reason.Config e (now_given before (Err (not_module reason.Config)))
  no_module_now (reason.Unreadable at) e = absurd (cc)

-- ---- the look at the file

module _ (before after : State) (path : List ℕ) (is_detected : Bool) where
  pub look_fails : (fault : LookupFault) → Answered before (look_at path) (by_fault (fails never) (fails never) fault) after
      → Answered before (read_module is_detected path) (by_fault (fails never) (fails never) fault) after
  look_fails fault a = looked_on before after (look_at path) (λ found. answered (by_entry is_detected found)) fault a

  pub look_given : (entry : Option Entry) (found : Found) → found ≡ by_entry is_detected entry
      → Answered before (look_at path) (given entry) after → Answered before (read_module is_detected path) (given found) after
  look_given entry found is a =
      subst (λ f. Answered before (read_module is_detected path) (given f) after) (sym is)
      (then_given before after after (look_at path) (λ found. answered (by_entry is_detected found)) entry
      (given (by_entry is_detected entry)) a (now_given after (by_entry is_detected entry)))

-- ---- the text

pub outline_of : (text : List ℕ) (is_detected : Bool) (bytes : List ℕ) (out : Result Outline ModuleFault) → ReadsOutline text out
    → by_outline is_detected bytes (read_outline text) ≡ by_outline is_detected bytes out
outline_of text is_detected bytes out reads = ap (by_outline is_detected bytes) ((outline_is_read text out).0 reads)

pub bad_bytes : (is_detected : Bool) (bytes read : List ℕ) (at : ℕ) → read ≡ bytes → (IsUtf8 read → ⊥)
    → at ≡ utf8_valid_len read → refusing (reason.Unreadable at) ≡ by_bytes is_detected bytes
bad_bytes is_detected bytes read at same bad is =
    ap (λ n. refusing (reason.Unreadable n)) (is ∙ ap utf8_valid_len same)
    ∙ sym (cond-false _ (by_outline is_detected bytes (read_outline bytes)) _
    (false_from_ne_true (is_utf8 bytes) (λ utf8. bad (subst IsUtf8 (sym same) (IsUtf8-from_is_utf8 bytes utf8)))))

pub good_bytes : (is_detected : Bool) (bytes read text : List ℕ) → read ≡ bytes → text ≡ read → IsUtf8 read
    → by_bytes is_detected bytes ≡ by_outline is_detected bytes (read_outline text)
good_bytes is_detected bytes read text same is utf8 =
    cond-true _ (by_outline is_detected bytes (read_outline bytes)) _
    (is_utf8-from_IsUtf8 bytes (subst IsUtf8 same utf8))
    ∙ ap (λ t. by_outline is_detected bytes (read_outline t)) (sym (is ∙ same))
