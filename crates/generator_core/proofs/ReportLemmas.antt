-- What a check says, line by line.
use Rattle.std.proofs.Common.{◌≡◌, ◌≤◌, ℕ, ◌+◌, true, false, List, [], ◌∷◌, ◌++◌, length, Result, Ok, Err, refl, sym, ap, ◌∙◌, append_assoc, subst, arith}
use Rattle.std.specs.Prelude.{map as each, drop, slice_get, Some}
use Rattle.std.specs.List.{concat}
use Rattle.std.proofs.lemmas.List.{append-nil}
use Rattle.std.proofs.lemmas.List.Folds.{concat-append}
use Rattle.shared_types.proofs.ListSteps.{drop_at}
use Rattle.tree_spec.specs.declared.LimitName.TheVariants.{Modules}
use Rattle.tree_spec.specs.Limits.{limit_number}
use Rattle.import_map_spec.specs.ParsedMap.{ParsedMap}
use Rattle.check_spec.specs.Differences.{differences}
use Rattle.trace_spec.specs.Checks.{Gathered}
use Rattle.config_spec.specs.declared.Command.{Command}
use Rattle.generator_spec.proofs.Endings.{one_line_text}
use Rattle.generator_spec.specs.Checking.{difference_line, difference_lines, SaysOfModules as of_modules, AreLined, AreLined as lined_as}
use Rattle.generator_spec.specs.Lines.{served_line, differences_line}
use Rattle.grammar_spec.specs.declared.answer.Strict.{Strict}
use Rattle.trace_spec.specs.Modules.{Module}
use Rattle.map_check.specs.declared.difference.Difference.{Difference}
use Rattle.map_check.specs.Shown.{shown}
use Rattle.generation.specs.declared.stop.Stop.{Stop}
use Rattle.generation.specs.declared.stop.Stop.TheVariants.{Memory}
use Rattle.generator_core.specs.declared.checking.Report.{Report}
use Rattle.generator_core.specs.Strictness.{StandBehind, IsStrictStop, IsStrictStop as strict_stop}
use Rattle.generator_core.specs.Checking.{AsksGrammar, AsksGrammar as asks, IsReportOf, IsTold, IsToldStrictly, IsReportStop, IsReportStop as report_stop, Reports}

abbrev pub lines_of : Gathered → List Difference → List (List ℕ)
lines_of all ds = each (λ (d : Difference). difference_line all (shown d)) ds

-- a loop's step, over the lines of the needs
pub next_line : (all : Gathered) (ds : List Difference) (number : ℕ) (d : Difference) (whole old new : List (List ℕ)) → whole ≡ old ++ lines_of all (drop number ds) → slice_get ds number ≡ Some d → new ≡ old ++ difference_line all (shown d) ∷ []
    → whole ≡ new ++ lines_of all (drop (number + 1) ds)
next_line all ds number d whole old new invariant here pushed =
    let split = drop_at ds number d here in
    let rest : List (List ℕ) = lines_of all (drop (number + 1) ds) in
    invariant ∙ (ap (λ xs. old ++ lines_of all xs) split ∙ (sym (append_assoc old (difference_line all (shown d) ∷ []) rest) ∙ ap (λ text. text ++ rest) (sym pushed)))

pub all_lines : (all : Gathered) (ds : List Difference) (number : ℕ) (whole lines : List (List ℕ)) → whole ≡ lines ++ lines_of all (drop number ds) → drop number ds ≡ [] → lines ≡ whole
all_lines all ds number whole lines invariant done = sym (append-nil lines) ∙ (sym (ap (λ xs. lines ++ lines_of all xs) done) ∙ sym invariant)

-- the lines of the code's differences are those of the definition
same_lines : (all : Gathered) (ds : List Difference) → lines_of all ds ≡ each (difference_line all) (each shown ds)
same_lines all [] = refl
same_lines all (d ∷ more) = ap (λ lines. difference_line all (shown d) ∷ lines) (same_lines all more)

pub lines_are : (map : ParsedMap) (all : Gathered) (ds : List Difference) → each shown ds ≡ differences map all.needs → lines_of all ds ≡ difference_lines map all
lines_are map all ds found = same_lines all ds ∙ ap (λ some. each (difference_line all) some) found

-- a loop's step, over lines that are joined
pub next_joined : (lines : List (List ℕ)) (number : ℕ) (line whole old new : List ℕ) → whole ≡ old ++ concat (drop number lines) → slice_get lines number ≡ Some line → new ≡ old ++ line → whole ≡ new ++ concat (drop (number + 1) lines)
next_joined lines number line whole old new invariant here pushed =
    invariant ∙ (ap (λ xs. old ++ concat xs) (drop_at lines number line here) ∙ (sym (append_assoc old line (concat (drop (number + 1) lines))) ∙ ap (λ text. text ++ concat (drop (number + 1) lines)) (sym pushed)))

pub all_joined : (lines : List (List ℕ)) (number : ℕ) (whole text : List ℕ) → whole ≡ text ++ concat (drop number lines) → drop number lines ≡ [] → text ≡ whole
all_joined lines number whole text invariant done = sym (append-nil text) ∙ (sym (ap (λ xs. text ++ concat xs) done) ∙ sym invariant)

-- ---- the report

pub no_difference : (needs : ℕ) (lines : List (List ℕ)) (report : Report) → length lines ≡ 0 → report.status ≡ 0 → report.text.items ≡ served_line needs → IsReportOf needs lines report
no_difference needs [] report none s t = record { status = s; text = t ∙ sym (one_line_text (served_line needs)) }
no_difference needs (line ∷ more) report none s t = absurd (omega (arith, none))

pub some_differences : (needs : ℕ) (lines : List (List ℕ)) (report : Report) → (length lines ≡ 0 → ⊥) → report.status ≡ 6 → report.text.items ≡ concat lines ++ differences_line (length lines) → IsReportOf needs lines report
some_differences needs [] report some s t = absurd (some refl)
some_differences needs (line ∷ more) report some s t =
    let last : List ℕ = differences_line (length (line ∷ more)) in
    record {
      status = s;
      text =
          t ∙ (ap (λ text. concat (line ∷ more) ++ text) (sym (one_line_text last))
          ∙ sym (concat-append (line ∷ more) (last ∷ [])));
    }

-- ---- with the lines of the modules

-- no more lines than modules
strict_few : (modules : List Module) (answers : List Strict) (lines : List (List ℕ)) → AreLined modules answers lines → length lines ≤ length modules
strict_few modules answers lines lined_as.none = omega arith
strict_few _ _ _ (lined_as.agrees {modules = modules} {answers} {lines} are) =
    let few = strict_few modules answers lines are in omega (arith, few)
strict_few _ _ _ (lined_as.syntax {modules = modules} {answers} {lines} at are) =
    let few = strict_few modules answers lines are in omega (arith, few)
strict_few _ _ _ (lined_as.differs {modules = modules} {answers} {lines} found outline are) =
    let few = strict_few modules answers lines are in omega (arith, few)

-- the lines of the modules stand behind those of the needs, and all is said
pub told_strictly : (all : Gathered) (lines new : List (List ℕ)) (result : Result Report Stop) → StandBehind all lines new → length all.modules ≤ limit_number Modules → IsTold (length all.needs) new result → IsToldStrictly all lines result
told_strictly all lines new (Ok report) lined few told = record { told = record { new = new; lined = lined; is = told.told }; stopped = tt; few = few }
told_strictly all lines new (Err stop) lined few told = record { told = tt; stopped = subst (IsStrictStop all) (sym told.stopped) strict_stop.memory; few = few }

pub reports_memory : (map : ParsedMap) (all : Gathered) (command : Command) → Reports command map all (Err Memory)
reports_memory map all command = record { reported = tt; stopped = report_stop.memory command }

pub reports_plainly : (map : ParsedMap) (all : Gathered) (lines : List (List ℕ)) (result : Result Report Stop) → lines ≡ difference_lines map all → IsTold (length all.needs) lines result
    → (command : Command) → AsksGrammar command false → Reports command map all result
reports_plainly map all lines (Ok report) same told _ asks.plainly = record {
  reported = record {
    strict = [];
    says = of_modules.unasked;
    few = omega arith;
    is = subst (λ ls. IsReportOf (length all.needs) ls report) (same ∙ sym (append-nil (difference_lines map all))) told.told;
  };
  stopped = tt;
}
reports_plainly map all lines (Err stop) same told command asking = record { reported = tt; stopped = subst (IsReportStop all command) (sym told.stopped) (report_stop.memory command) }

pub reports_strictly : (map : ParsedMap) (all : Gathered) (lines : List (List ℕ)) (result : Result Report Stop) → lines ≡ difference_lines map all → IsToldStrictly all lines result
    → (command : Command) → AsksGrammar command true → Reports command map all result
reports_strictly map all lines (Ok report) same told _ asks.strictly =
    let lined = told.told.lined in
    let few = strict_few all.modules lined.answers lined.lines lined.lined in
    let bound = told.few in
    record {
      reported = record {
        strict = lined.lines;
        says = of_modules.strictly lined.answers lined.lines lined.said lined.lined;
        few = omega (arith, few, bound);
        is = subst (λ ls. IsReportOf (length all.needs) ls report) (lined.is ∙ ap (λ ls. ls ++ lined.lines) same) told.told.is;
      };
      stopped = tt;
    }
reports_strictly map all lines (Err stop) same told _ asks.strictly = record { reported = tt; stopped = report_stop.by_modules stop told.stopped }
