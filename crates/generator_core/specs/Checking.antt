-- How a check comes to what it says.
--     FindsMapText before result after      the map's file is read, or it is told why not
--     FindsMap config text result      its text is read as a map, or it is told why not
--     AsksGrammar command strictly     whether the command checks the modules too
--     IsReportOf needs lines report    what is said, where these are the lines of what differs
--     IsTold needs lines result, IsToldStrictly all lines result      the same, or it is told why not
--     IsReport command map all report  what the command says, where the trace has come to these tables
--     Reports command map all result   the same, or it is told why not
--     ChecksBy command config before result after    the same as the next one, behind the look at the map's file
--     Checks command config before result after      the check has its report, or it is told why not
use Rattle.std.specs.Prelude.{◌≡◌, ◌≤◌, ◌++◌, [], ◌∷◌, ℕ, Bool, true, false, List, length, None, Result, Ok, Err}
use Rattle.std.specs.Prelude.{IfOk, IfErr, IfSome}
use Rattle.std.specs.FinMap.{get}
use Rattle.std.specs.List.{concat}
use Rattle.tree_spec.specs.declared.LimitName.TheVariants.{Modules}
use Rattle.tree_spec.specs.Limits.{limit_number}
use Rattle.tree_spec.specs.States.{FolderState, OnlyLooks}
use Rattle.tree_spec.specs.Trees.{Tree}
use Rattle.import_map_spec.specs.ParsedMap.{ParsedMap, MapFault}
use Rattle.trace_spec.specs.declared.TraceFault.TheVariants.{Unservable}
use Rattle.trace_spec.specs.Checks.{Gathered}
use Rattle.trace_spec.specs.Modules.{Config, shown, web_name}
use Rattle.trace_spec.specs.Traces.{traced}
use Rattle.trace_spec.specs.Walking.{the_page}
use Rattle.config_spec.specs.declared.Command.{Command}
use Rattle.config_spec.specs.declared.Command.TheVariants.{Check, CheckStrictly}
use Rattle.generator_spec.specs.declared.Refusal.TheVariants.{MapFile, Trace}
use Rattle.generator_spec.specs.Checking.{difference_lines, SaysOfModules, check_status, check_lines}
use Rattle.generator_spec.specs.Commands.{map_path, IsChecking, IsMapText, ReadsMap, HoldsMap, map_file_fault}
use Rattle.generation.specs.declared.stop.Stop.{Stop}
use Rattle.generation.specs.declared.stop.Stop.TheVariants.{Refused, Memory}
use Rattle.generation.specs.Generating.{AsksNoPathTwice, AsksFootprint}
use Rattle.generator_core.specs.declared.checking.Report.{Report}
use Rattle.generator_spec.specs.Asked.{AsksOwn, AsksFew}
use Rattle.generator_core.specs.Preparing.{EndsBefore}
use Rattle.generator_core.specs.Strictness.{StandBehind, IsStrictStop}

-- ---- the map's file

pub record IsMapTextFound (before after : FolderState) (text : List ℕ) : Type 0 where
  pub is_text : IfSome before.holds (λ tree. IsMapText tree text)
  pub looks : OnlyLooks before after ⊥

pub record FindsMapText (before : FolderState) (result : Result (List ℕ) Stop) (after : FolderState) : Type 0 where
  pub found : IfOk result (λ text. IsMapTextFound before after text)
  pub asked : IfSome before.asked (λ old. AsksOwn (map_path ∷ []) old after)
  pub stopped :
      IfErr result (λ stop. (command : Command) → IsChecking command → (config : Config)
      → EndsBefore command config before after stop)

-- ---- the map

-- the text is no map, or the page has no URL, or memory is wanting
pub data IsMapStop (config : Config) (text : List ℕ) (stop : Stop) : Type 0 where
  no_map :
      (fault : MapFault) → ReadsMap config text (Err fault) → stop ≡ Refused (MapFile (map_file_fault fault))
      → IsMapStop config text stop
  no_base :
      web_name config the_page ≡ None → stop ≡ Refused (Trace (Unservable (shown config the_page) None))
      → IsMapStop config text stop
  memory : stop ≡ Memory → IsMapStop config text stop

pub record FindsMap (config : Config) (text : List ℕ) (result : Result ParsedMap Stop) : Type 0 where
  pub reads : IfOk result (λ map. ReadsMap config text (Ok map))
  pub stopped : IfErr result (IsMapStop config text)

-- ---- what is said

pub data AsksGrammar : Command → Bool → Type 0 where
  plainly : AsksGrammar Check false
  strictly : AsksGrammar CheckStrictly true

pub record IsReportOf (needs : ℕ) (lines : List (List ℕ)) (report : Report) : Type 0 where
  pub status : report.status ≡ check_status lines
  pub text : report.text.items ≡ concat (check_lines needs lines)

-- the lines of the needs, and behind them no more lines of modules than there may be modules
pub record IsReport (command : Command) (map : ParsedMap) (all : Gathered) (report : Report) : Type 0 where
  pub strict : List (List ℕ)
  pub says : SaysOfModules all command strict
  pub few : length strict ≤ limit_number Modules
  pub is : IsReportOf (length all.needs) (difference_lines map all ++ strict) report

-- some module is nested too deep, where the modules are checked, or memory is wanting
pub data IsReportStop (all : Gathered) : Command → Stop → Type 0 where
  by_modules : (stop : Stop) → IsStrictStop all stop → IsReportStop all CheckStrictly stop
  memory : (command : Command) → IsReportStop all command Memory

-- the same, or memory is wanting
pub record IsTold (needs : ℕ) (lines : List (List ℕ)) (result : Result Report Stop) : Type 0 where
  pub told : IfOk result (IsReportOf needs lines)
  pub stopped : IfErr result (λ stop. stop ≡ Memory)

-- behind these lines come those of the modules
pub record IsLined (all : Gathered) (lines : List (List ℕ)) (report : Report) : Type 0 where
  pub new : List (List ℕ)
  pub lined : StandBehind all lines new
  pub is : IsReportOf (length all.needs) new report

pub record IsToldStrictly (all : Gathered) (lines : List (List ℕ)) (result : Result Report Stop) : Type 0 where
  pub told : IfOk result (IsLined all lines)
  pub stopped : IfErr result (IsStrictStop all)
  pub few : length all.modules ≤ limit_number Modules

pub record Reports (command : Command) (map : ParsedMap) (all : Gathered) (result : Result Report Stop)
    : Type 0 where
  pub reported : IfOk result (IsReport command map all)
  pub stopped : IfErr result (IsReportStop all command)

-- what a told tree has to do with it
pub record IsHeldAndTraced (config : Config) (tree : Tree) (map : ParsedMap) (all : Gathered) : Type 0 where
  pub holds : HoldsMap tree config map
  pub is_traced : traced (get tree) config ≡ Ok all

pub record IsReported (command : Command) (config : Config) (before after : FolderState)
    (report : Report) : Type 0 where
  pub map : ParsedMap
  pub all : Gathered
  pub is_report : IsReport command map all report
  pub told : IfSome before.holds (λ tree. IsHeldAndTraced config tree map all)
  pub looks : OnlyLooks before after ⊥

-- the page has no URL, so it is refused, or memory is wanting
pub data IsNameless (config : Config) (stop : Stop) : Type 0 where
  refused : stop ≡ Refused (Trace (Unservable (shown config the_page) None)) → IsNameless config stop
  memory : stop ≡ Memory → IsNameless config stop

pub record ChecksBy (command : Command) (config : Config) (before : FolderState) (result : Result Report Stop)
    (after : FolderState) : Type 0 where
  pub reported : IfOk result (λ report. IsReported command config before after report)
  pub asked : IfSome before.asked (λ old. AsksNoPathTwice old after)
  pub footprint : IfSome before.asked (λ old. AsksFootprint config before.holds old after)
  pub stopped : IfErr result (λ stop. EndsBefore command config before after stop)

pub record Checks (command : Command) (config : Config) (before : FolderState) (result : Result Report Stop)
    (after : FolderState) : Type 0 where
  pub reported : IfOk result (λ report. IsReported command config before after report)
  pub asked : IfSome before.asked (λ old. AsksFew command config before.holds old after)
  pub stopped : IfErr result (λ stop. EndsBefore command config before after stop)
