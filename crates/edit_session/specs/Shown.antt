-- What a session shows, and what it plans to show.
--     KeepsShown old new              the same is shown, in a graph that has some free places more at most
--     AreLinksOf l all                the modules of a trace, their sources, and where each request leads, are these
--     TracedSo tree config l          so it is with the trace of this tree and config
--     HaveSources tree config shown   the modules that are shown have the sources of this trace
--     IsShownOf tree config shown     the modules of this trace are shown, with their sources
--     IsPlan shown plan               the plan is one for what is shown
--     Shows                           what is shown, and the plan to show something else, if one is made
--     HasPlan shown plan              if there is a plan, it is one for what is shown
--     IsPlannedBy made trace now      so it is planned, where there were so many places before
--     PlansFor If config now          the plan is one for the trace of the tree of which `If` speaks; when it was made,
--                                     there weren't more places
--     IsNextShown old plan new        what is shown then
--     IsRenewed old new               another graph is begun, since the places that were made and the modules that aren't
--                                     there yet reach the most
--     SlotsGo old new tree later      which slots stay between what is shown of two trees
--     NoMorePlaces old new            no place was made, except those of a new graph
use Rattle.std.specs.Prelude.{◌≡◌, ◌⊎◌, ◌≤◌, ◌+◌, ⊤, ℕ, List, length, Option, Some, None, Ok}
use Rattle.std.specs.FinMap.{get}
use Rattle.tree_spec.specs.Limits.{limit_number}
use Rattle.tree_spec.specs.Trees.{Tree}
use Rattle.tree_spec.specs.declared.LimitName.TheVariants.{Modules}
use Rattle.trace_spec.specs.Checks.{Gathered}
use Rattle.trace_spec.specs.Modules.{Config}
use Rattle.trace_spec.specs.Traces.{traced}
use Rattle.module_graph.specs.Graphs.{AreModules}
use Rattle.trace_graph.specs.Links.{Links, IsLinked, modules_of, sources_of, targets_of}
use Rattle.slot_arena.specs.declared.slot.Slot.{Slot}
use Rattle.graph_repair.specs.Matching.{missing, IsMatching}
use Rattle.graph_repair.specs.Plans.{IsPlanned}
use Rattle.request_trace.specs.Showing as tracing
use Rattle.request_trace.specs.Showing.{Traced}
use Rattle.graph_repair.specs.Repairs.{Repairs, ShowsSame}
use Rattle.graph_repair.specs.declared.parts.Plan.{Plan}
use Rattle.session_spec.specs.Showings.{IsShowingOf, KeepsSlots, most_made, made_at_once}
use Rattle.session_watch.specs.Seen.{showing_of}

pub record KeepsShown (old new : Links) : Type 0 where
  pub same : ShowsSame old new
  pub few : length new.graph ≤ length old.graph + made_at_once

pub record AreLinksOf (l : Links) (all : Gathered) : Type 0 where
  pub modules : modules_of l ≡ all.modules
  pub sources : sources_of l ≡ all.sources
  pub targets : targets_of l ≡ all.targets

abbrev pub TracedSo : Tree → Config → Links → Type 0
TracedSo tree config l = (all : Gathered) → traced (get tree) config ≡ Ok all → AreLinksOf l all

abbrev pub HaveSources : Tree → Config → Links → Type 0
HaveSources tree config shown = (all : Gathered) → traced (get tree) config ≡ Ok all → sources_of shown ≡ all.sources

pub record IsShownOf (tree : Tree) (config : Config) (shown : Links) : Type 0 where
  pub shows : IsShowingOf tree config (showing_of shown.graph shown.slots)
  pub sources : HaveSources tree config shown

-- ---- a plan

abbrev pub IsPlan : Links → Plan → Type 0
IsPlan shown plan = (made : ℕ) × (l : Links) × IsPlanned made shown l plan

pub record Shows : Type 0 where
  pub links : Links
  pub plan : Option Plan

abbrev pub HasPlan : Links → Option Plan → Type 0
HasPlan shown None = ⊤
HasPlan shown (Some plan) = IsPlan shown plan

pub record IsPlannedBy (made : ℕ) (trace : Traced) (now : Shows) : Type 0 where
  pub plan : Plan
  pub is_there : now.plan ≡ Some plan
  pub planned : IsPlanned made now.links trace.links plan
  pub shows : tracing.Shows trace
  pub linked : IsLinked trace.links

pub record PlansFor (If : (Tree → Type 0) → Type 0) (config : Config) (now : Shows) : Type 0 where
  pub plan : Plan
  pub is_there : now.plan ≡ Some plan
  pub made : ℕ
  pub within : made ≤ length now.links.graph
  pub links : Links
  pub planned : IsPlanned made now.links links plan
  pub linked : IsLinked links
  pub entries : length links.roots ≡ length config.entries
  pub traced_so : If (λ tree. TracedSo tree config links)

pub record IsNextShown (old : Links) (plan : Plan) (new : Links) : Type 0 where
  pub linked : IsLinked old
  pub modules : AreModules new.graph
  pub repairs : (made : ℕ) (l : Links) → IsPlanned made old l plan → Repairs made old l new

abbrev pub NoMorePlaces : Links → Links → Type 0
NoMorePlaces old new = (length new.graph ≡ length old.graph) ⊎ (length new.graph ≤ made_at_once)

pub record IsRenewed (old new : Links) : Type 0 where
  pub links : Links
  pub modules : modules_of new ≡ modules_of links
  pub sources : sources_of new ≡ sources_of links
  pub keeps : List (Option Slot)
  pub matching : IsMatching old links keeps
  pub full : most_made ≤ length old.graph + missing keeps
  pub most : missing keeps ≤ limit_number Modules
  pub few : length new.graph ≤ made_at_once

-- own: no slot stands for two modules, unless another graph is begun
abbrev pub SlotsGo : Links → Links → Tree → Tree → Type 0
SlotsGo old new tree later =
    KeepsSlots tree (showing_of old.graph old.slots) later (showing_of new.graph new.slots)
    ⊎ IsRenewed old new
