-- How it comes to be said why a file is loaded.
--     specifiers_of graph entries from     what is asked for by the page, which has these entries, or under a slot
--     step_lines graph specifiers steps    one line for each request of a chain from an asker with these requests
--     AreLive graph steps                  each step leads to a slot that has a module
--     GraphSays links config path status lines     what is said of a path, by the graph of a trace
--     IsReportOf links config path report          the report says so
--     IsReportBy trace config path report          the report says so of a trace
--     IsExplained path config before after report  the report says what is said of a told tree's trace
--     ExplainsFile path config before result after    there is the report, or it is told why not
--     RunsWhy path config before after out out_after result steps later    the run ends as words end that ask why the
--                                                     file at this path is loaded, with this config
use Rattle.std.specs.Prelude.{◌≡◌, ◌≢◌, [], ◌∷◌, ℕ, List, All, Option, Some, None, Result, Ok, IfOk, IfErr, IfSome}
use Rattle.std.specs.FinMap.{get}
use Rattle.std.specs.List.{concat}
use Rattle.slot_arena.specs.Slots.{Place, value_at}
use Rattle.slot_arena.specs.declared.slot.Slot.{Slot}
use Rattle.module_graph.specs.declared.module.Module as vertex
use Rattle.tree_spec.specs.States.{FolderState, SinkState, OnlyLooks}
use Rattle.tree_spec.specs.Trees.{Tree}
use Rattle.chain_spec.specs.Chains.{IsChain}
use Rattle.chain_why.specs.Answers.{IsAnswer}
use Rattle.chain_why.specs.Shown.{targets_in, is_at}
use Rattle.module_graph.specs.Graphs.{AreModules}
use Rattle.trace_graph.specs.Links.{Links, IsLinked, IsLive, module_in, source_in}
use Rattle.request_trace.specs.Showing.{Traced, Shows}
use Rattle.trace_spec.specs.Checks.{Gathered}
use Rattle.trace_spec.specs.Modules.{Config}
use Rattle.trace_spec.specs.Traces.{traced}
use Rattle.config_spec.specs.declared.Command.TheVariants.{Why}
use Rattle.config_spec.specs.Words.{AsksWhy}
use Rattle.generator_spec.specs.Asked.{AsksFew, IsConfigAt}
use Rattle.generator_spec.specs.Commands.{IsGenerating}
use Rattle.generator_spec.specs.Ending.{EndsAs, TellsChain}
use Rattle.generator_spec.specs.Explaining.{request_line, SaysWhy}
use Rattle.generator_spec.specs.Lines.{from_page_line, not_reached_line}
use Rattle.generator_spec.specs.Statuses.{done_status, not_reached_status}
use Rattle.generation.specs.declared.stop.Stop.{Stop}
use Rattle.generator_core.specs.declared.checking.Report.{Report}
use Rattle.generator_core.specs.Preparing.{EndsBefore}
use Rattle.generator_core.specs.Spending.{CommandSpends, FitsTrace}

-- ---- by the graph

abbrev pub specifiers_of : List (Place vertex.Module) → List (List ℕ) → Option Slot → List (List ℕ)
specifiers_of graph entries None = entries
specifiers_of graph entries (Some slot) = (source_in (value_at graph slot)).specifiers

abbrev pub step_lines : List (Place vertex.Module) → List (List ℕ) → List (ℕ × Slot) → List (List ℕ)
step_lines graph specifiers [] = []
step_lines graph specifiers (step ∷ more) =
    request_line specifiers step.0 (module_in (value_at graph step.1))
    ∷ step_lines graph (source_in (value_at graph step.1)).specifiers more

abbrev pub AreLive : List (Place vertex.Module) → List (ℕ × Slot) → Type 0
AreLive graph steps = All (λ (step : ℕ × Slot). IsLive graph step.1) steps

-- own: the page's own path, or that of a module to which a chain leads, or one to which none does
pub data GraphSays (links : Links) (config : Config) (path : List ℕ) (status : ℕ) (lines : List (List ℕ))
    : Type 0 where
  own_page :
      path ≡ config.page → status ≡ done_status → lines ≡ from_page_line config.page ∷ []
      → GraphSays links config path status lines
  reached :
      (steps : List (ℕ × Slot)) → path ≢ config.page → IsAnswer links.graph links.roots path steps
      → status ≡ done_status → lines ≡ from_page_line config.page ∷ step_lines links.graph config.entries steps
      → GraphSays links config path status lines
  not_reached :
      path ≢ config.page
      → ((numbers : List ℕ) → IsChain (targets_in links.graph links.roots) (is_at links.graph path) numbers → ⊥)
      → status ≡ not_reached_status → lines ≡ not_reached_line path ∷ []
      → GraphSays links config path status lines

pub record IsReportOf (links : Links) (config : Config) (path : List ℕ) (report : Report) : Type 0 where
  pub lines : List (List ℕ)
  pub says : GraphSays links config path report.status lines
  pub text : report.text.items ≡ concat lines

-- what the trace keeps of its graph goes with it
pub record IsReportBy (trace : Traced) (config : Config) (path : List ℕ) (report : Report) : Type 0 where
  pub shows : Shows trace
  pub linked : IsLinked trace.links
  pub modules : AreModules trace.links.graph
  pub says : IsReportOf trace.links config path report

-- ---- by the tree

pub record IsToldWhy (config : Config) (tree : Tree) (path : List ℕ) (status : ℕ) (lines : List (List ℕ))
    : Type 0 where
  pub all : Gathered
  pub is_traced : traced (get tree) config ≡ Ok all
  pub says : SaysWhy (get tree) config path status lines

pub record IsExplained (path : List ℕ) (config : Config) (before after : FolderState) (report : Report)
    : Type 0 where
  pub lines : List (List ℕ)
  pub text : report.text.items ≡ concat lines
  pub tells : TellsChain config path report.status lines
  pub told : IfSome before.holds (λ tree. IsToldWhy config tree path report.status lines)
  pub looks : OnlyLooks before after ⊥

pub record ExplainsFile (path : List ℕ) (config : Config) (before : FolderState) (result : Result Report Stop)
    (after : FolderState) : Type 0 where
  pub explained : IfOk result (IsExplained path config before after)
  pub asked : IfSome before.asked (λ old. AsksFew Why config before.holds old after)
  pub stopped : IfErr result (EndsBefore Why config before after)

-- ---- the run

pub record RunsWhy (path : List ℕ) (config : Config) (before after : FolderState) (out out_after : SinkState)
    (result steps later : ℕ) : Type 0 where
  pub end :
      (words : List (List ℕ)) → AsksWhy words path → IsConfigAt words Why config before
      → EndsAs words before after out out_after result
  pub asked : IfSome before.asked (λ old. AsksFew Why config before.holds old after)
  pub spends : CommandSpends (IsGenerating Why) out out_after result steps later
  pub by_trace : FitsTrace Why config before.holds steps later
