-- No byte of the line of a command that was done goes out unless it was.
use Rattle.std.proofs.Common.{◌≡◌, ◌≢◌, ◌≤◌, ◌⊎◌, ⊎_elim, ℕ, zero, suc, List, [], ◌∷◌, ◌++◌, length, take, Option, Some, IfSome, inl, inr, refl, sym, ap, ◌∙◌, subst, arith}
use Rattle.std.specs.Prelude.{option_map, All}
use Rattle.std.specs.List.{concat}
use Rattle.std.proofs.Math.Seq.{take-length}
use Rattle.std.proofs.lemmas.List.{append_cancel_left}
use Rattle.std.proofs.lemmas.List.Elements.{All-head}
use Rattle.tree_spec.specs.States.{FolderState, SinkState}
use Rattle.page_spec.specs.declared.kinds.InjectFault.TheVariants.{PageUnclear, TwoMaps, NoPlace}
use Rattle.page_spec.specs.declared.kinds.InjectFault.TheVariants as page
use Rattle.trace_spec.specs.declared.TraceFault.{TraceFault}
use Rattle.trace_spec.specs.declared.TraceFault.TheVariants as fault
use Rattle.trace_spec.specs.Modules.{Config}
use Rattle.config_spec.specs.declared.Command.{Command}
use Rattle.config_spec.specs.declared.ConfigFault.{ConfigFault}
use Rattle.config_spec.specs.declared.ConfigFault.TheVariants as config
use Rattle.config_spec.specs.declared.ProjectFault.{ProjectFault}
use Rattle.config_spec.specs.declared.ProjectFault.TheVariants as project
use Rattle.config_spec.specs.Words.{IsPlain}
use Rattle.generator_spec.specs.declared.MapFileFault.{MapFileFault}
use Rattle.generator_spec.specs.declared.MapFileFault.TheVariants as map_file
use Rattle.generator_spec.specs.declared.PageFault.{PageFault}
use Rattle.generator_spec.specs.declared.PageFault.TheVariants.{Absent, TooLarge, KeepsMapsOut}
use Rattle.generator_spec.specs.declared.Refusal.{Refusal}
use Rattle.generator_spec.specs.declared.Refusal.TheVariants as refusal
use Rattle.generator_spec.specs.Lines.{project_line, config_line, page_line, map_file_line, trace_line, line_of, counts_line, served_line, vendored_line, differences_line}
use Rattle.generator_spec.specs.Lines.{memory_line, read_fault_line, write_fault_line, not_reached_line}
use Rattle.generator_spec.specs.Ending.{IsDone, IsDifference, IsChecked, Gives, Shaped, Says, Ends, Shaped as shaped, Says as says, Ends as ends}
use Rattle.generator_spec.specs.Ending.{TellsChain, TellsChain as chain}
use Rattle.generator_spec.specs.Ending.{IsStrictLine, IsStrictLine as stricts, AreStrictLines, AreStrictLines as are}
use Rattle.generator_spec.specs.Checking.{check_status, check_lines}
use Rattle.generator_spec.specs.Promises.{Tells}
use Rattle.generator_spec.proofs.Endings.{one_line_text}

-- ---- lines by their first byte

abbrev first_byte : List ℕ → ℕ
first_byte [] = 0
first_byte (b ∷ rest) = b

-- the line of a command that was done begins so: with `o`, or that of copies with `v`
abbrev BeginsDone : ℕ → Type 0
BeginsDone first = (first ≡ 111) ⊎ (first ≡ 118)

-- a line that isn't that of a command that was done
abbrev IsAnother : List ℕ → Type 0
IsAnother line = BeginsDone (first_byte line) → ⊥

other_line :
    (first : ℕ) (line : List ℕ) → first_byte line ≡ first → first ≢ 111 → first ≢ 118 → IsAnother line
other_line first line e apart far (inl same) = apart (sym e ∙ same)
other_line first line e apart far (inr same) = far (sym e ∙ same)

trace_is_another : (why : TraceFault) → IsAnother (trace_line why)
trace_is_another (fault.Unservable path url) =
    other_line 114 (trace_line (fault.Unservable path url)) refl (λ e. omega arith) (λ e. omega arith)
trace_is_another (fault.Refused referrer specifier cause) =
    other_line 114 (trace_line (fault.Refused referrer specifier cause)) refl (λ e. omega arith) (λ e. omega arith)
trace_is_another (fault.Clash referrer first first_to second second_to) =
    other_line 114 (trace_line (fault.Clash referrer first first_to second second_to)) refl (λ e. omega arith) (λ e. omega arith)
trace_is_another (fault.NotModule path reason) =
    other_line 114 (trace_line (fault.NotModule path reason)) refl (λ e. omega arith) (λ e. omega arith)
trace_is_another (fault.Limit which) = other_line 108 (trace_line (fault.Limit which)) refl (λ e. omega arith) (λ e. omega arith)
trace_is_another fault.ReadFault = other_line 102 read_fault_line refl (λ e. omega arith) (λ e. omega arith)
trace_is_another fault.Memory = other_line 109 memory_line refl (λ e. omega arith) (λ e. omega arith)

page_is_another : (why : PageFault) → IsAnother (page_line why)
page_is_another Absent = other_line 98 (page_line Absent) refl (λ e. omega arith) (λ e. omega arith)
page_is_another TooLarge = other_line 108 (page_line TooLarge) refl (λ e. omega arith) (λ e. omega arith)
page_is_another (KeepsMapsOut (PageUnclear at)) =
    other_line 114 (page_line (KeepsMapsOut (PageUnclear at))) refl (λ e. omega arith) (λ e. omega arith)
page_is_another (KeepsMapsOut (TwoMaps at)) =
    other_line 114 (page_line (KeepsMapsOut (TwoMaps at))) refl (λ e. omega arith) (λ e. omega arith)
page_is_another (KeepsMapsOut NoPlace) = other_line 114 (page_line (KeepsMapsOut NoPlace)) refl (λ e. omega arith) (λ e. omega arith)
page_is_another (KeepsMapsOut page.Memory) = other_line 109 memory_line refl (λ e. omega arith) (λ e. omega arith)

map_file_is_another : (why : MapFileFault) → IsAnother (map_file_line why)
map_file_is_another map_file.Absent = other_line 98 (map_file_line map_file.Absent) refl (λ e. omega arith) (λ e. omega arith)
map_file_is_another map_file.TooLarge = other_line 108 (map_file_line map_file.TooLarge) refl (λ e. omega arith) (λ e. omega arith)
map_file_is_another (map_file.NotJson at) = other_line 98 (map_file_line (map_file.NotJson at)) refl (λ e. omega arith) (λ e. omega arith)
map_file_is_another map_file.TooDeep = other_line 108 (map_file_line map_file.TooDeep) refl (λ e. omega arith) (λ e. omega arith)
map_file_is_another (map_file.NotObject which) =
    other_line 98 (map_file_line (map_file.NotObject which)) refl (λ e. omega arith) (λ e. omega arith)

project_is_another : (why : ProjectFault) → IsAnother (project_line why)
project_is_another project.Absent = other_line 98 (project_line project.Absent) refl (λ e. omega arith) (λ e. omega arith)
project_is_another project.TooLarge = other_line 108 (project_line project.TooLarge) refl (λ e. omega arith) (λ e. omega arith)
project_is_another (project.NotProject at) = other_line 98 (project_line (project.NotProject at)) refl (λ e. omega arith) (λ e. omega arith)
project_is_another (project.Above which) = other_line 108 (project_line (project.Above which)) refl (λ e. omega arith) (λ e. omega arith)

config_is_another : (why : ConfigFault) → IsAnother (config_line why)
config_is_another (config.BadBase text) = other_line 119 (config_line (config.BadBase text)) refl (λ e. omega arith) (λ e. omega arith)
config_is_another (config.BadPath text) = other_line 119 (config_line (config.BadPath text)) refl (λ e. omega arith) (λ e. omega arith)
config_is_another (config.BadConditions text) = other_line 119 (config_line (config.BadConditions text)) refl (λ e. omega arith) (λ e. omega arith)
config_is_another (config.Project why) = project_is_another why
config_is_another config.NoBase = other_line 119 (config_line config.NoBase) refl (λ e. omega arith) (λ e. omega arith)
config_is_another (config.NotLinked entry) = other_line 114 (config_line (config.NotLinked entry)) refl (λ e. omega arith) (λ e. omega arith)
config_is_another config.TooManyEntries = other_line 108 (config_line config.TooManyEntries) refl (λ e. omega arith) (λ e. omega arith)

refusal_is_another : (why : Refusal) → IsAnother (line_of why)
refusal_is_another (refusal.Config fault) = config_is_another fault
refusal_is_another (refusal.Limit which) =
    other_line 108 (line_of (refusal.Limit which)) refl (λ e. omega arith) (λ e. omega arith)
refusal_is_another (refusal.Page why) = page_is_another why
refusal_is_another (refusal.MapFile why) = map_file_is_another why
refusal_is_another (refusal.Trace why) = trace_is_another why
refusal_is_another (refusal.Occupied path) = other_line 114 (line_of (refusal.Occupied path)) refl (λ e. omega arith) (λ e. omega arith)
refusal_is_another refusal.PathTooLong = other_line 108 (line_of refusal.PathTooLong) refl (λ e. omega arith) (λ e. omega arith)
refusal_is_another refusal.TooManySegments = other_line 108 (line_of refusal.TooManySegments) refl (λ e. omega arith) (λ e. omega arith)
refusal_is_another refusal.NestedTooDeep = other_line 108 (line_of refusal.NestedTooDeep) refl (λ e. omega arith) (λ e. omega arith)

-- a front that begins so is of a line that does
first_of_front :
    (count : ℕ) (line : List ℕ) → BeginsDone (first_byte (take count line)) → BeginsDone (first_byte line)
first_of_front zero line (inl e) = absurd (omega arith)
first_of_front zero line (inr e) = absurd (omega arith)
first_of_front (suc count) [] e = e
first_of_front (suc count) (b ∷ line) e = e

first_of_counts :
    (modules requests mappings count : ℕ) → 1 ≤ count
    → first_byte (take count (counts_line modules requests mappings)) ≡ 111
first_of_counts modules requests mappings zero some = absurd (omega arith)
first_of_counts modules requests mappings (suc count) some = refl

first_of_served : (needs count : ℕ) → 1 ≤ count → first_byte (take count (served_line needs)) ≡ 111
first_of_served needs zero some = absurd (omega arith)
first_of_served needs (suc count) some = refl

first_of_copies : (files count : ℕ) → 1 ≤ count → first_byte (take count (vendored_line files)) ≡ 118
first_of_copies files zero some = absurd (omega arith)
first_of_copies files (suc count) some = refl

-- a front of another text, and a byte of that of a command that was done, don't both go out
no_byte :
    (text done : List ℕ) (out out_after : Option (List ℕ)) (front : List ℕ) (count : ℕ)
    → IsAnother text → Gives out out_after text → out ≡ Some front → BeginsDone (first_byte (take count done))
    → out_after ≡ Some (front ++ take count done) → ⊥
no_byte text done out out_after front count another gives told first given =
    let one : out_after ≡ Some (front ++ take gives.count text) =
    gives.given ∙ ap (option_map (λ before. before ++ take gives.count text)) told in
    let same : front ++ take gives.count text ≡ front ++ take count done = cc in
    let fronts = append_cancel_left front (take gives.count text) (take count done) same in
    another (first_of_front gives.count text (subst BeginsDone (sym (ap first_byte fronts)) first))

-- ---- what goes out

whole_given :
    (out out_after : Option (List ℕ)) (line : List ℕ) → out_after ≡ option_map (λ front. front ++ line) out
    → Gives out out_after line
whole_given out out_after line e =
    record { count = length line; given = e ∙ ap (λ l. option_map (λ front. front ++ l) out) (sym (take-length line)) }

gives_of :
    (status : ℕ) (line : List ℕ) (out out_after : SinkState) (result : ℕ) → Ends status line out out_after result
    → Gives out.got out_after.got line
gives_of status line out out_after result (ends.said is given quiet) = whole_given out.got out_after.got line given
gives_of status line out out_after result (ends.output_fault is gives rose) = gives

-- the text of one line that isn't that of a command that was done
other_text : (line : List ℕ) (lines : List (List ℕ)) → lines ≡ line ∷ [] → IsAnother line → IsAnother (concat lines)
other_text line lines l another = subst IsAnother (sym (ap concat l ∙ one_line_text line)) another

first_of_appended : (line rest : List ℕ) (first : ℕ) → first_byte line ≡ suc first → first_byte (line ++ rest) ≡ suc first
first_of_appended [] rest first e = absurd (omega (arith, e))
first_of_appended (b ∷ line) rest first e = e

difference_first : (line : List ℕ) → IsDifference line → first_byte line ≡ 100
difference_first line is = ap first_byte is.says

strict_first : (line : List ℕ) → IsStrictLine line → first_byte line ≡ 115
strict_first line (stricts.by_syntax name at is) = ap first_byte is
strict_first line (stricts.by_requests name is) = ap first_byte is

-- a text that begins with another byte is another
other_first : (line : List ℕ) (more : List (List ℕ)) (byte : ℕ) → first_byte line ≡ suc byte → suc byte ≢ 111 → suc byte ≢ 118 → IsAnother (concat (line ∷ more))
other_first line more byte is other copied =
    other_line (suc byte) (concat (line ∷ more)) (first_of_appended line (concat more) byte is) other copied

modules_text :
    (command : Command) (strict : List (List ℕ)) (needs : ℕ) → AreStrictLines command strict
    → (check_status strict ≡ 0) ⊎ IsAnother (concat (check_lines needs strict))
modules_text command strict needs are.unasked = inl refl
modules_text command strict needs (are.strictly [] few all) = inl refl
modules_text command strict needs (are.strictly (line ∷ more) few all) =
    inr (other_first line (more ++ differences_line (length (line ∷ more)) ∷ []) 114 (strict_first line (All-head IsStrictLine line more all)) (λ e. omega (arith, e)) (λ e. omega (arith, e)))

-- a check is done, or its text begins with a difference or with the line of a module
checked_text :
    (command : Command) (differing strict : List (List ℕ)) (needs : ℕ) → All IsDifference differing
    → AreStrictLines command strict
    → (check_status (differing ++ strict) ≡ 0) ⊎ IsAnother (concat (check_lines needs (differing ++ strict)))
checked_text command [] strict needs all are_so = modules_text command strict needs are_so
checked_text command (line ∷ more) strict needs all are_so =
    inr (other_first line ((more ++ strict) ++ differences_line (length (line ∷ (more ++ strict))) ∷ []) 99 (difference_first line (All-head IsDifference line more all)) (λ e. omega (arith, e)) (λ e. omega (arith, e)))

module _ (words : List (List ℕ)) (before after : FolderState) (status : ℕ) (lines : List (List ℕ))
    (done : status ≡ 0 → IfSome before.holds (λ tree. IsDone words tree after.holds)) where
  abbrev WasDone : Type 0
  WasDone = IfSome before.holds (λ tree. IsDone words tree after.holds)

  checked_line : IsChecked words status lines → IsAnother (concat lines) ⊎ WasDone
  checked_line is =
      ⊎_elim (λ zero. inr (done (is.ends ∙ zero))) (λ another. inl (subst (λ all. IsAnother (concat all)) (sym is.says) another))
      (checked_text is.command is.differing is.strict is.needs is.are_differences is.are_strict)

  explained_line :
      (own : Config) (path : List ℕ) → TellsChain own path status lines → IsAnother (concat lines) ⊎ WasDone
  explained_line own path (chain.own_page same s l) = inr (done s)
  explained_line own path (chain.reached requests other begins stops s l) = inr (done s)
  explained_line own path (chain.not_reached other s l) =
      inl (other_text (not_reached_line path) lines l (other_line 110 (not_reached_line path) refl (λ e. omega arith) (λ e. omega arith)))

  shaped_line : IsPlain words → Shaped words status lines → IsAnother (concat lines) ⊎ WasDone
  shaped_line plain (shaped.not_plain text none s l) = absurd (none plain)
  shaped_line plain (shaped.refused why is s l) = inl (other_text (line_of why) lines l (refusal_is_another why))
  shaped_line plain (shaped.done line s l counted) = inr (done s)
  shaped_line plain (shaped.checked is) = checked_line is
  shaped_line plain (shaped.listed is) = inr (done is.ends)
  shaped_line plain (shaped.explained is) = explained_line is.config is.path is.tells
  shaped_line plain (shaped.vendored is) = inr (done is.ends)
  shaped_line plain (shaped.measured is) = inr (done is.ends)

  said_line : IsPlain words → Says words before after status lines → IsAnother (concat lines) ⊎ WasDone
  said_line plain (says.outcome shape o l w) = shaped_line plain shape
  said_line plain (says.memory s t k l w) = inl (other_text memory_line lines t (other_line 109 memory_line refl (λ e. omega arith) (λ e. omega arith)))
  said_line plain (says.read_fault command is_command s t k rose w) =
      inl (other_text read_fault_line lines t (other_line 102 read_fault_line refl (λ e. omega arith) (λ e. omega arith)))
  said_line plain (says.write_fault line counted stops s t l rose) =
      inl (other_text write_fault_line lines t (other_line 102 write_fault_line refl (λ e. omega arith) (λ e. omega arith)))
  said_line plain (says.copy_fault able stops s t l rose) =
      inl (other_text write_fault_line lines t (other_line 102 write_fault_line refl (λ e. omega arith) (λ e. omega arith)))

  pub end_tells :
      (out out_after : SinkState) (result : ℕ) → Says words before after status lines
      → Ends status (concat lines) out out_after result → Tells (IsPlain words) out.got out_after.got WasDone
  end_tells out out_after result s ended =
      let gives = gives_of status (concat lines) out out_after result ended in
      let only = λ (plain : IsPlain words) (text front : List ℕ) (count : ℕ) (told : out.got ≡ Some front) (first : BeginsDone (first_byte (take count text))) (given : out_after.got ≡ Some (front ++ take count text)).
      ⊎_elim (λ another. absurd (no_byte (concat lines) text out.got out_after.got front count another gives told first given)) (λ written. written) (said_line plain s) in
      record {
        text = concat lines;
        gives = gives;
        only_where_done = λ plain front modules requests mappings count told some given.
            only plain (counts_line modules requests mappings) front count told (inl (first_of_counts modules requests mappings count some)) given;
        only_where_served = λ plain front needs count told some given.
            only plain (served_line needs) front count told (inl (first_of_served needs count some)) given;
        only_where_copied = λ plain front files count told some given.
            only plain (vendored_line files) front count told (inr (first_of_copies files count some)) given;
      }
