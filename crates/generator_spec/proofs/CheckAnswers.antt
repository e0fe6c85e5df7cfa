-- What a run answers that checks a map.
use Rattle.std.proofs.Common.{◌≡◌, ◌≢◌, ◌++◌, ℕ, List, [], ◌∷◌, length, Some, Ok, refl, sym, ap, ◌∙◌, inl, inr, arith}
use Rattle.std.specs.Prelude.{option_map}
use Rattle.std.specs.FinMap.{get}
use Rattle.std.specs.List.{concat}
use Rattle.tree_spec.specs.States.{FolderState, SinkState}
use Rattle.tree_spec.specs.Trees.{Tree}
use Rattle.import_map_spec.specs.ParsedMap.{ParsedMap}
use Rattle.trace_spec.specs.Checks.{Gathered}
use Rattle.trace_spec.specs.Modules.{Config}
use Rattle.trace_spec.specs.Traces.{traced}
use Rattle.config_spec.specs.declared.Command.{Command}
use Rattle.generator_spec.specs.CheckAnswers.{IsCheckOf, IsShallow, AnswersCheck, strict_differences}
use Rattle.generator_spec.specs.Checking.{SaysOfModules, SaysOfModules as says, check_status, check_lines}
use Rattle.generator_spec.specs.Commands.{IsChecking, IsChecking as checking}
use Rattle.generator_spec.specs.Laws.{ChecksAnswer}
use Rattle.generator_spec.specs.Lines.{served_line, differences_line}
use Rattle.generator_spec.specs.Outcome.{ComesTo as comes, Outcome}
use Rattle.generator_spec.specs.Promises.{Stands, Completes, Completes as complete}
use Rattle.generator_spec.proofs.Endings.{one_line_text}
use Rattle.generator_spec.proofs.Meetings.{end_meets, told_there}
use Rattle.generator_spec.proofs.Outcomes.{config_is_plain}
use Rattle.generator_spec.proofs.Strictnesses.{checks_are_exact, some_saying}

-- where no module is nested too deep that is checked, something is said of them
saying :
    (tree : Tree) (config : Config) (all : Gathered) (command : Command) → traced (get tree) config ≡ Ok all
    → IsChecking command → IsShallow all command → (strict : List (List ℕ)) × SaysOfModules all command strict
saying tree config all command e checking.plainly shallow = ([], says.unasked)
saying tree config all command e checking.strictly shallow =
    elim (some_saying (get tree) config all e) [
      | inl said ↦ said
      | inr deep ↦ absurd (shallow refl deep.0 deep.1 deep.2)
    ]

-- ---- the lines

lines_where_done : (needs : ℕ) (lines : List (List ℕ)) → check_status lines ≡ 0 → check_lines needs lines ≡ served_line needs ∷ []
lines_where_done needs [] zero = refl
lines_where_done needs (line ∷ more) zero = absurd (omega (arith, zero))

status_else : (lines : List (List ℕ)) → check_status lines ≢ 0 → check_status lines ≡ 6
status_else [] other = absurd (other refl)
status_else (line ∷ more) other = refl

lines_else : (needs : ℕ) (lines : List (List ℕ)) → check_status lines ≢ 0 → check_lines needs lines ≡ lines ++ differences_line (length lines) ∷ []
lines_else needs [] other = absurd (other refl)
lines_else needs (line ∷ more) other = refl

stands_so :
    (status : ℕ) (lines : List (List ℕ)) (tree : Tree) (before after : FolderState) (out out_after : SinkState)
    (result : ℕ) → result ≢ 8 → Completes status lines tree before after out out_after result
    → Stands status (concat lines) (Some tree) after out out_after result
stands_so status lines tree before after out out_after result there (complete.complete stands) = stands
stands_so status lines tree before after out out_after result there (complete.memory stands) =
    absurd (there stands.answered)

module _ (words : List (List ℕ)) (before : FolderState) (tree : Tree) (command : Command) (config : Config)
    (held : ParsedMap) (all : Gathered) (is : IsCheckOf words before tree command config held all)
    (strict : List (List ℕ)) (says_so : SaysOfModules all command strict) where
  abbrev differing : List (List ℕ)
  differing = strict_differences held all strict

  abbrev needs : ℕ
  needs = length all.needs

  outcome : Outcome words tree (check_status differing) (check_lines needs differing) tree
  outcome = record {
    files = [];
    comes = comes.checked command config held all strict is.is_config is.holds is.is_traced says_so refl refl refl;
    placed = refl;
  }

  answers :
      (after : FolderState) (out out_after : SinkState) (result : ℕ)
      → Stands (check_status differing) (concat (check_lines needs differing)) (Some tree) after out out_after result
      → AnswersCheck tree command config held all after out out_after result
  answers after out out_after result stands =
      let exact = checks_are_exact tree config command held all strict is.is_traced says_so in
      let other : result ≢ 0 → check_status differing ≢ 0 = λ not_done zero. not_done (stands.answered ∙ zero) in
      record {
        exactly = ((λ zero. exact.0 (sym stands.answered ∙ zero)), (λ both. stands.answered ∙ exact.1 both));
        served = λ zero.
            stands.given
            ∙ ap (λ text. option_map (λ front. front ++ text) out.got)
            (ap concat (lines_where_done needs differing (sym stands.answered ∙ zero)) ∙ one_line_text (served_line needs));
        strict = strict;
        of_modules = says_so;
        differs = λ not_done. stands.answered ∙ status_else differing (other not_done);
        told = λ not_done.
            stands.given
            ∙ ap (λ lines. option_map (λ front. front ++ concat lines) out.got) (lines_else needs differing (other not_done));
        kept = stands.told;
      }

pub checks_answer : ChecksAnswer
checks_answer words before after out out_after result ended quiet there tree command config held all is shallow =
    let said = saying tree config all command is.is_traced is.checks shallow in
    let met = told_there _ before.holds tree is.told
    (end_meets words before after out out_after result ended.status ended.lines ended.says ended.ends) in
    let differing = strict_differences held all said.0 in
    answers words before tree command config held all is said.0 said.1 after out out_after result
    (stands_so (check_status differing) (check_lines (length all.needs) differing) tree before after out out_after result there
    (met.complete (config_is_plain words tree command config is.is_config) (check_status differing)
    (check_lines (length all.needs) differing) tree
    (outcome words before tree command config held all is said.0 said.1) quiet))
