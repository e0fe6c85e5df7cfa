-- The record of a folder, and the format of a file, as answers to the askings for them.
use Rattle.std.proofs.Common.{◌≡◌, ◌≢◌, ◌⊎◌, ℕ, List, Option, Some, None, Result, Ok, Err, refl, sym, ◌∙◌, subst, inl, inr}
use Rattle.std.specs.declared.alloc.Global.{Global}
use Rattle.std.specs.declared.rc.Rc.{Rc}
use Rattle.std.specs.Result.{IsErrAnd}
use Rattle.std.proofs.lemmas.Bool.{cond-true, cond-false}
use Rattle.std.specs.Prelude.{codes, true, false}
use Rattle.asking_spec.specs.Askings.{answered, and_then}
use Rattle.tree_spec.specs.FoldersAbove.{folder_of}
use Rattle.tree_spec.specs.LookAskings.{LookAsking, look_at}
use Rattle.tree_spec.specs.Paths.{IsPath}
use Rattle.tree_spec.specs.declared.Entry.{Entry}
use Rattle.node_spec.specs.EsmFileFormat as spec
use Rattle.node_spec.specs.EsmFileFormat.{file_format, format_in, format_by_record, has_ending}
use Rattle.node_spec.specs.FileLooks.{look_at_text}
use Rattle.node_spec.specs.LookupPackageScope.{package_json, package_scope}
use Rattle.node_spec.specs.NodeAnswers.{Refusal, by_cause, too_deep}
use Rattle.node_spec.specs.ReadPackageJson.{record_at, record_of_entry}
use Rattle.node_spec.specs.Records.{Record}
use Rattle.node_spec.specs.declared.Cause.TheVariants as cause
use Rattle.package_record.specs.declared.package_json.Package.{Package}
use Rattle.package_lookup.specs.declared.fault.LookupFault.{LookupFault}
use Rattle.package_lookup.specs.declared.fault.LookupFault.TheVariants.{Memory}
use Rattle.package_lookup.specs.declared.format.Format.{Format}
use Rattle.package_lookup.specs.declared.format.Format.TheVariants.{Module, Not}
use Rattle.node_spec.specs.declared.Reason.TheVariants as reason
use Rattle.package_lookup.specs.declared.known.Known.{Known}
use Rattle.package_lookup.specs.Looked.{IsSameKnown}
use Rattle.package_lookup.specs.Recorded.{shown_record, IsRecorded}
use Rattle.package_lookup.specs.Responses.{Response, passes, not_read, no_memory, never, given, fails, by_fault, bad_config, deep_config, resolved}
use Rattle.package_lookup.specs.Formats.{by_format, formatted, IsByEnding}
use Rattle.package_lookup.specs.Answered.{State, state, Answered}
use Rattle.package_lookup.proofs.Questions.{then_given, now_given, unfinished, no_memory_now, fault_on, looked_to, known_on, handed}
use Rattle.package_lookup.proofs.Searches.{text_seen, text_unseen}

-- ---- the record of a folder

unless_memory : {X : Type 0} (response : Response X) → (response ≡ fails no_memory) ⊎ (response ≢ fails no_memory)
unless_memory (given value) = inr (λ e. cc)
unless_memory (fails no_memory) = inl refl
unless_memory (fails not_read) = inr (λ e. cc)
unless_memory (fails never) = inr (λ e. cc)
unless_memory (fails (passes which)) = inr (λ e. cc)

abbrev record_then : Option Entry → Response (Result (Option Record) Refusal)
record_then found = given (record_of_entry found)

recorded_by : (before after : State) (at : List ℕ) (found : Option Entry) (response : Response (Result (Option Record) Refusal))
    → Answered before (look_at_text (package_json at)) (given found) after
    → (response ≢ fails no_memory → response ≡ record_then found)
    → (response ≡ fails no_memory) ⊎ (response ≢ fails no_memory)
    → Answered before (record_at at) response after
recorded_by before after at found response a is (inl memory) =
    subst (λ r. Answered before (record_at at) r after) (sym memory)
    (unfinished before after (look_at_text (package_json at)) (λ f. answered (record_of_entry f)) found a)
recorded_by before after at found response a is (inr some) =
    subst (λ r. Answered before (record_at at) r after) (sym (is some))
    (then_given before after after (look_at_text (package_json at)) (λ f. answered (record_of_entry f)) found
    (record_then found) a (now_given after (record_of_entry found)))

pub record_answered : (before after : State) (known : Known) (at path : List ℕ) (found : Option Entry)
    (result : Result (Option (Rc Package Global)) LookupFault) → path ≡ package_json at → IsPath (package_json at)
    → Answered before (look_at path) (given found) after → IsRecorded found result → IsSameKnown after.known known
    → Answered before (record_at at) (resolved shown_record result) (state after.folder known after.trail)
record_answered before after known at path found result same is a records kept =
    known_on before after known (record_at at) (resolved shown_record result) kept
    (recorded_by before after at found (resolved shown_record result)
    (text_seen before after path (package_json at) (given found) same is a) records
    (unless_memory (resolved shown_record result)))

pub no_record : (before : State) (at : List ℕ) → (IsPath (package_json at) → ⊥)
    → Answered before (record_at at) (given (Ok None)) before
no_record before at none =
    then_given before before before (look_at_text (package_json at)) (λ f. answered (record_of_entry f)) None
    (given (Ok None)) (text_unseen before (package_json at) none) (now_given before (Ok None))

pub record_fails : (before after : State) (at path : List ℕ) (fault : LookupFault) → path ≡ package_json at
    → IsPath (package_json at) → Answered before (look_at path) (by_fault (fails never) (fails never) fault) after
    → Answered before (record_at at) (by_fault bad_config deep_config fault) after
record_fails before after at path fault same is a =
    looked_to before after (look_at_text (package_json at)) (λ f. answered (record_of_entry f)) bad_config deep_config
    fault (text_seen before after path (package_json at) (by_fault (fails never) (fails never) fault) same is a)

-- ---- the format of a file

pub format_given : (before after : State) (scope : List ℕ) (held : Result (Option Record) Refusal)
    → Answered before (record_at scope) (given held) after
    → Answered before (format_in (Some scope)) (given (format_by_record held)) after
format_given before after scope held a =
    then_given before after after (record_at scope) (λ h. answered (format_by_record h)) held
    (given (format_by_record held)) a (now_given after (format_by_record held))

pub format_fails : (before after : State) (scope : List ℕ) (fault : LookupFault)
    → Answered before (record_at scope) (by_fault bad_config deep_config fault) after
    → Answered before (format_in (Some scope)) (by_fault (given (Ok spec.HasBadConfig)) deep_config fault) after
format_fails before after scope fault a =
    fault_on before after (record_at scope) (λ h. answered (format_by_record h)) bad_config deep_config
    (given (Ok spec.HasBadConfig)) deep_config
    (format_given before after scope (Err (by_cause cause.InvalidConfig)))
    (format_given before after scope (Err too_deep)) fault a

pub no_scope : (before after : State) (from : List ℕ) → Answered before (package_scope from) (given None) after
    → Answered before (and_then (package_scope from) format_in) (given (Ok spec.IsDetected)) after
no_scope before after from a =
    then_given before after after (package_scope from) format_in None (given (Ok spec.IsDetected)) a
    (now_given after (Ok spec.IsDetected))

pub in_scope : (before middle after : State) (from scope : List ℕ) (response : Response (Result spec.Format Refusal))
    → Answered before (package_scope from) (given (Some scope)) middle
    → Answered middle (format_in (Some scope)) response after
    → Answered before (and_then (package_scope from) format_in) response after
in_scope before middle after from scope response a b =
    then_given before middle after (package_scope from) format_in (Some scope) response a b

pub scope_fails : (before after : State) (from : List ℕ) (fault : LookupFault)
    → Answered before (package_scope from) (by_fault (fails never) (fails never) fault) after
    → Answered before (and_then (package_scope from) format_in) (by_fault (fails never) deep_config fault) after
scope_fails before after from fault a =
    looked_to before after (package_scope from) format_in (fails never) deep_config fault a

pub response_as : {X : Type 0} (before after : State) (asking : LookAsking X) (one other : Response X) → other ≡ one
    → Answered before asking one after → Answered before asking other after
response_as before after asking one other same a = subst (λ r. Answered before asking r after) (sym same) a

pub formatted_err : (before after : State) (asking : LookAsking (Result spec.Format Refusal))
    (result : Result Format LookupFault) → IsErrAnd result (λ given. given ≡ Memory)
    → Answered {X = Result spec.Format Refusal} before asking (fails no_memory) after
    → Answered before asking (formatted result) after
formatted_err before after asking result e a =
    subst (λ r. Answered before asking (formatted r) after) (sym (handed result Memory e)) a

abbrev pub by_scope : List ℕ → LookAsking (Result spec.Format Refusal)
by_scope from = and_then (package_scope from) format_in

pub scope_no_memory : (before : State) (path : List ℕ)
    → Answered {X = Result spec.Format Refusal} before (by_scope (folder_of path)) (fails no_memory) before
scope_no_memory before path = no_memory_now before (by_scope (folder_of path))

pub scope_of_file : (before after : State) (from path : List ℕ) (response : Response (Result spec.Format Refusal))
    → from ≡ folder_of path → Answered before (by_scope from) response after
    → Answered before (by_scope (folder_of path)) response after
scope_of_file before after from path response same a =
    subst (λ f. Answered before (by_scope f) response after) same a

-- ---- the ending of a name

module _ (path : List ℕ) where
  abbrev Ends : List ℕ → Type 0
  Ends ending = has_ending path ending ≡ true

  abbrev Lacks : List ℕ → Type 0
  Lacks ending = has_ending path ending ≡ false

  pub ends_mjs : Ends (codes ".mjs") → IsByEnding path (Some Module)
  ends_mjs a = (Ok spec.IsModule, refl, cond-true _ _ _ a)

  pub ends_cjs : Lacks (codes ".mjs") → Ends (codes ".cjs") → IsByEnding path (Some (Not reason.CommonJs))
  ends_cjs a b = (Ok spec.IsCommonJs, refl, cond-false _ _ _ a ∙ cond-true _ _ _ b)

  pub ends_json : Lacks (codes ".mjs") → Lacks (codes ".cjs") → Ends (codes ".json")
      → IsByEnding path (Some (Not reason.Json))
  ends_json a b c = (Ok spec.IsJson, refl, cond-false _ _ _ a ∙ (cond-false _ _ _ b ∙ cond-true _ _ _ c))

  pub ends_node : Lacks (codes ".mjs") → Lacks (codes ".cjs") → Lacks (codes ".json") → Ends (codes ".node")
      → IsByEnding path (Some (Not reason.Addon))
  ends_node a b c d =
      (Ok spec.IsAddon, refl, cond-false _ _ _ a ∙ (cond-false _ _ _ b ∙ (cond-false _ _ _ c ∙ cond-true _ _ _ d)))

  pub ends_js : Lacks (codes ".mjs") → Lacks (codes ".cjs") → Lacks (codes ".json") → Lacks (codes ".node")
      → Ends (codes ".js") → IsByEnding path None
  ends_js a b c d e =
      cond-false _ _ _ a ∙ (cond-false _ _ _ b ∙ (cond-false _ _ _ c ∙ (cond-false _ _ _ d ∙ cond-true _ _ _ e)))

  pub ends_otherwise : Lacks (codes ".mjs") → Lacks (codes ".cjs") → Lacks (codes ".json") → Lacks (codes ".node")
      → Lacks (codes ".js") → IsByEnding path (Some (Not reason.Other))
  ends_otherwise a b c d e = (
    Ok spec.IsOther,
    refl,
    cond-false _ _ _ a ∙ (cond-false _ _ _ b ∙ (cond-false _ _ _ c ∙ (cond-false _ _ _ d ∙ cond-false _ _ _ e))),
  )

pub format_known : (before : State) (path : List ℕ) (found : Format) → IsByEnding path (Some found)
    → Answered before (file_format path) (by_format found) before
format_known before path found is =
    response_as before before (file_format path) (given is.0) (by_format found) is.1
    (subst (λ asking. Answered before asking (given is.0) before) (sym is.2) (now_given before is.0))

pub format_scoped : (before after : State) (path : List ℕ) (response : Response (Result spec.Format Refusal))
    → IsByEnding path None → Answered before (by_scope (folder_of path)) response after
    → Answered before (file_format path) response after
format_scoped before after path response is a =
    subst (λ asking. Answered before asking response after) (sym is) a

pub ruleset by_endings = (ends_mjs, ends_cjs, ends_json, ends_node, ends_js, ends_otherwise)
