-- How a list comes to its text.
--     IsPushed all place before after      the line of the module at a place stands behind what was there
--     IsListed config before after report  the report has the modules of a told tree's trace
--     Lists config before result after     the list has its report, or it is told why not
use Rattle.std.specs.Prelude.{◌≡◌, ◌++◌, [], ℕ, List, length, slice_get, Some, Result, Ok, IfOk, IfErr, IfSome}
use Rattle.std.specs.FinMap.{get}
use Rattle.std.specs.List.{concat}
use Rattle.tree_spec.specs.States.{FolderState, OnlyLooks}
use Rattle.trace_spec.specs.Checks.{Gathered}
use Rattle.trace_spec.specs.Modules.{Config, Module}
use Rattle.trace_spec.specs.Questions.{Source}
use Rattle.trace_spec.specs.Traces.{traced}
use Rattle.config_spec.specs.declared.Command.TheVariants.{List as ListModules}
use Rattle.generator_spec.specs.Asked.{AsksFew}
use Rattle.generator_spec.specs.Lines.{module_line}
use Rattle.generator_spec.specs.Listing.{list_lines}
use Rattle.generator_spec.specs.Statuses.{done_status}
use Rattle.generation.specs.declared.stop.Stop.{Stop}
use Rattle.generator_core.specs.declared.checking.Report.{Report}
use Rattle.generator_core.specs.Preparing.{EndsBefore}

abbrev pub IsPushed : Gathered → ℕ → List ℕ → List ℕ → Type 0
IsPushed all place before after =
    (m : Module) (source : Source) → slice_get all.modules place ≡ Some m → slice_get all.sources place ≡ Some source
    → after ≡ before ++ module_line (m.path ++ m.suffix) (length source.specifiers)

pub record IsListed (config : Config) (before after : FolderState) (report : Report) : Type 0 where
  pub all : Gathered
  pub status : report.status ≡ done_status
  pub text : report.text.items ≡ concat (list_lines all)
  pub told : IfSome before.holds (λ tree. traced (get tree) config ≡ Ok all)
  pub looks : OnlyLooks before after ⊥

pub record Lists (config : Config) (before : FolderState) (result : Result Report Stop)
    (after : FolderState) : Type 0 where
  pub listed : IfOk result (IsListed config before after)
  pub asked : IfSome before.asked (λ old. AsksFew ListModules config before.holds old after)
  pub stopped : IfErr result (EndsBefore ListModules config before after)
