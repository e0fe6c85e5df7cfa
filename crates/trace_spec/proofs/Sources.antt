-- What stands at a module's path, and its format, give its source.
use Rattle.std.specs.Prelude.{◌≡◌, ◌&&◌, not, ℕ, Bool, true, false, List, map, Option, Some, None, Result, Ok, Err}
use Rattle.std.specs.Prelude.{if◌then◌else◌}
use Rattle.std.specs.Str.{is_utf8, IsUtf8}
use Rattle.std.specs.Str.Lossy.{utf8_valid_len}
use Rattle.std.proofs.Common.{refl, sym, ap, ◌∙◌, subst}
use Rattle.std.proofs.lemmas.Str.{IsUtf8-from_is_utf8, is_utf8-from_IsUtf8}
use Rattle.std.proofs.lemmas.Bool.{cond-true}
use Rattle.asking_spec.specs.Askings.{outcome}
use Rattle.asking_spec.proofs.AskingLemmas.{outcome_then}
use Rattle.tree_spec.specs.declared.Entry.{Entry}
use Rattle.tree_spec.specs.declared.Entry.TheVariants.{Stored, Directory}
use Rattle.tree_spec.specs.LookAskings.{Sights}
use Rattle.module_spec.specs.declared.request.Request.{Request}
use Rattle.module_spec.specs.declared.request.ModuleFault.{ModuleFault}
use Rattle.module_spec.specs.declared.request.ModuleFault.TheVariants as fault
use Rattle.module_spec.specs.Outlines.{Outline}
use Rattle.module_spec.specs.OutlineReading.{read_outline}
use Rattle.module_spec.proofs.OutlineReadings.{outline_is_read}
use Rattle.node_spec.specs.declared.Reason.TheVariants.{CommonJs, Unreadable}
use Rattle.node_spec.specs.EsmFileFormat.{Format, IsModule, IsDetected, IsCommonJs, IsJson, IsAddon, HasBadConfig}
use Rattle.node_spec.specs.EsmFileFormat.{IsOther, file_format}
use Rattle.node_spec.specs.NodeAnswers.{Refusal, by_cause, too_deep}
use Rattle.trace_spec.specs.Modules.{Module}
use Rattle.trace_spec.specs.Questions.{Source, NoSource, not_module, of_module, by_outline, by_entry}
use Rattle.trace_spec.specs.Questions.{by_format, always}
use Rattle.trace_spec.specs.Traces.{if_ok, source}
use Rattle.trace_spec.specs.Laws.{IsModuleFormat, stated, detected, HasSource, SourcesAreRead}

-- ---- a source of an entry

-- the entry gives this source, where the text may have to decide
record IsSource (is_detected : Bool) (found : Option Entry) (own : Source) : Type 0 where
  stored : found ≡ Some (Stored own.bytes)
  utf8 : IsUtf8 own.bytes
  outline : Outline
  reads : read_outline own.bytes ≡ Ok outline
  asks : own.specifiers ≡ map (λ (request : Request). request.text) outline.requests
  declares : is_detected ≡ true → outline.declares ≡ true

record IsRead (is_detected : Bool) (bytes : List ℕ) (outline : Outline) (own : Source) : Type 0 where
  bytes_are : bytes ≡ own.bytes
  asks : own.specifiers ≡ map (λ (request : Request). request.text) outline.requests
  declares : is_detected ≡ true → outline.declares ≡ true

abbrev source_of : List ℕ → Outline → Source
source_of bytes outline =
    record { bytes = bytes; specifiers = map (λ (request : Request). request.text) outline.requests }

outline_parts : (is_detected : Bool) (bytes : List ℕ) (outline : Outline) (own : Source)
    → by_outline is_detected bytes (Ok outline) ≡ Ok own → IsRead is_detected bytes outline own
outline_parts is_detected bytes outline own e = by is_detected outline.declares refl refl e
  where
    by : (of_text declared : Bool) → is_detected ≡ of_text → outline.declares ≡ declared
        → (if of_text && not declared then Err (not_module CommonJs) else Ok (source_of bytes outline)) ≡ Ok own
        → IsRead is_detected bytes outline own
    by true false of_text declared f = absurd (cc)
    by true true of_text declared f =
        let same : source_of bytes outline ≡ own = cc in
        record { bytes_are = ap (λ s. s.bytes) same; asks = ap (λ s. s.specifiers) (sym same); declares = λ d. declared }
    by false declared of_text is f =
        let same : source_of bytes outline ≡ own = cc in
        record {
          bytes_are = ap (λ s. s.bytes) same;
          asks = ap (λ s. s.specifiers) (sym same);
          declares = λ d. absurd (let never : true ≡ false = sym d ∙ of_text in cc);
        }

entry_parts : (is_detected : Bool) (found : Option Entry) (own : Source) → by_entry is_detected found ≡ Ok own
    → IsSource is_detected found own
entry_parts is_detected None own e = absurd (cc)
entry_parts is_detected (Some Directory) own e = absurd (cc)
entry_parts is_detected (Some (Stored bytes)) own e = by_text (is_utf8 bytes) refl e
  where
    by_reading : (read : Result Outline ModuleFault) → read_outline bytes ≡ read → is_utf8 bytes ≡ true
        → by_outline is_detected bytes read ≡ Ok own → IsSource is_detected (Some (Stored bytes)) own
    by_reading (Err (fault.Unreadable at)) is text f = absurd (cc)
    by_reading (Err fault.TooDeep) is text f = absurd (cc)
    by_reading (Err fault.TooManyRequests) is text f = absurd (cc)
    by_reading (Ok outline) is text f =
        let parts = outline_parts is_detected bytes outline own f in
        record {
          stored = ap (λ b. Some (Stored b)) parts.bytes_are;
          utf8 = subst IsUtf8 parts.bytes_are (IsUtf8-from_is_utf8 bytes text);
          outline = outline;
          reads = ap read_outline (sym parts.bytes_are) ∙ is;
          asks = parts.asks;
          declares = parts.declares;
        }

    by_text : (text : Bool) → is_utf8 bytes ≡ text
        → (if text
        then by_outline is_detected bytes (read_outline bytes)
        else Err (not_module (Unreadable (utf8_valid_len bytes)))) ≡ Ok own
        → IsSource is_detected (Some (Stored bytes)) own
    by_text false text f = absurd (cc)
    by_text true text f = by_reading (read_outline bytes) refl text f

outline_gives : (is_detected : Bool) (own : Source) (outline : Outline) → (is_detected ≡ true → outline.declares ≡ true)
    → own.specifiers ≡ map (λ (request : Request). request.text) outline.requests
    → by_outline is_detected own.bytes (Ok outline) ≡ Ok own
outline_gives is_detected own outline declares asks = by is_detected outline.declares refl refl
  where
    same : source_of own.bytes outline ≡ own
    same = λ i. record { bytes = own.bytes; specifiers = sym asks i }

    by : (of_text declared : Bool) → is_detected ≡ of_text → outline.declares ≡ declared
        → (if of_text && not declared then Err (not_module CommonJs) else Ok (source_of own.bytes outline)) ≡ Ok own
    by true false of_text declared = absurd (let never : true ≡ false = sym (declares of_text) ∙ declared in cc)
    by true true of_text declared = ap Ok same
    by false declared of_text is = ap Ok same

entry_gives : (is_detected : Bool) (found : Option Entry) (own : Source) → IsSource is_detected found own
    → by_entry is_detected found ≡ Ok own
entry_gives is_detected found own is =
    ap (by_entry is_detected) is.stored
    ∙ (cond-true _ (by_outline is_detected own.bytes (read_outline own.bytes)) _ (is_utf8-from_IsUtf8 own.bytes is.utf8)
    ∙ (ap (by_outline is_detected own.bytes) is.reads
    ∙ outline_gives is_detected own is.outline is.declares is.asks))

-- ---- a source of a path

if_ok_is : (found : Result Source NoSource) (own : Source) → if_ok found ≡ Some own → found ≡ Ok own
if_ok_is (Ok value) own e = let same : value ≡ own = cc in ap Ok same
if_ok_is (Err why) own e = absurd (cc)

module _ (sights : Sights) (m : Module) (own : Source) where
  has_source : (is_detected : Bool) → by_entry is_detected (sights m.path) ≡ Ok own
      → ((outline : Outline) → (is_detected ≡ true → outline.declares ≡ true) → IsModuleFormat sights m.path outline)
      → HasSource sights m own
  has_source is_detected e format =
      let is = entry_parts is_detected (sights m.path) own e in
      record {
        stored = is.stored;
        utf8 = is.utf8;
        outline = is.outline;
        reads = (outline_is_read own.bytes (Ok is.outline)).1 is.reads;
        asks = is.asks;
        format = format is.outline is.declares;
      }

  by_format_has : (format : Result Format Refusal) → outcome sights (file_format m.path) ≡ format
      → outcome sights (by_format m.path format) ≡ Ok own → HasSource sights m own
  by_format_has (Ok IsModule) is e = has_source false e (λ outline declares. stated is)
  by_format_has (Ok IsDetected) is e = has_source true e (λ outline declares. detected is (declares refl))
  by_format_has (Ok IsCommonJs) is e = absurd (cc)
  by_format_has (Ok IsJson) is e = absurd (cc)
  by_format_has (Ok IsAddon) is e = absurd (cc)
  by_format_has (Ok HasBadConfig) is e = absurd (cc)
  by_format_has (Ok IsOther) is e = absurd (cc)
  by_format_has (Err (by_cause cause)) is e = absurd (cc)
  by_format_has (Err too_deep) is e = absurd (cc)

  always_is : always sights (of_module m.path) ≡ outcome sights (by_format m.path (outcome sights (file_format m.path)))
  always_is = outcome_then sights (file_format m.path) (by_format m.path)

  by_module_format : (outline : Outline) → IsModuleFormat sights m.path outline
      → ((is_detected : Bool) → (is_detected ≡ true → outline.declares ≡ true)
      → by_entry is_detected (sights m.path) ≡ Ok own)
      → always sights (of_module m.path) ≡ Ok own
  by_module_format outline (stated is) gives =
      always_is ∙ (ap (λ format. outcome sights (by_format m.path format)) is
      ∙ gives false (λ d. absurd (let never : false ≡ true = d in cc)))
  by_module_format outline (detected is declares) gives =
      always_is ∙ (ap (λ format. outcome sights (by_format m.path format)) is ∙ gives true (λ d. declares))

  source_there : HasSource sights m own → source sights m ≡ Some own
  source_there has = ap if_ok (by_module_format has.outline has.format (λ is_detected declares.
      entry_gives is_detected (sights m.path) own (record {
        stored = has.stored;
        utf8 = has.utf8;
        outline = has.outline;
        reads = (outline_is_read own.bytes (Ok has.outline)).0 has.reads;
        asks = has.asks;
        declares = declares;
      })))

pub sources_are_read : SourcesAreRead
sources_are_read sights m own = (
  (λ e. by_format_has sights m own (outcome sights (file_format m.path)) refl
      (sym (always_is sights m own) ∙ if_ok_is (always sights (of_module m.path)) own e)),
  (λ has. source_there sights m own has),
)
