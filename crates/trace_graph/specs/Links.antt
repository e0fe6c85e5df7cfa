-- The graph of a trace. own: no public standard speaks of it.
--     Links                     a graph, the slots of the modules in trace order, and those to which the entries lead
--     module_of v, source_of v      the module and the source of a vertex, as a trace is told them
--     modules_of l, sources_of l    those of all modules, in trace order
--     led_to graph target       the module that a target names
--     targets_of l              to each request, the page's first, the module to which it leads
--     IsLive graph s            the slot has a module
--     IsSet graph target        a target is set, to a slot that has a module
--     all_targets l             the targets of the modules, in trace order
--     IsLinked l                each target is set and live, and so is each slot of the lists; each module has one slot,
--                               and nothing else is in the graph
use Rattle.std.specs.Prelude.{◌≡◌, ◌++◌, List, [], All, length, map, flat_map, Option, Some, None}
use Rattle.module_spec.specs.declared.request.Request.{Request}
use Rattle.slot_arena.specs.Slots.{Place, value_at}
use Rattle.slot_arena.specs.Counts.{live}
use Rattle.slot_arena.specs.declared.slot.Slot.{Slot}
use Rattle.module_graph.specs.declared.module.Module as vertex
use Rattle.module_graph.specs.Many.{AreApart}
use Rattle.trace_spec.specs.Modules.{Module}
use Rattle.trace_spec.specs.Questions.{Source}
use Rattle.trace_spec.specs.Laws.{no_module, no_source}

pub record Links : Type 0 where
  pub graph : List (Place vertex.Module)
  pub slots : List Slot
  pub roots : List Slot

abbrev pub module_of : vertex.Module → Module
module_of v = record { path = v.path; suffix = v.suffix }

abbrev pub source_of : vertex.Module → Source
source_of v =
    record {
      bytes = v.source.value;
      specifiers = map (λ (request : Request). request.text) v.requests.value;
    }

-- ---- what stands under a slot; without a module, what stands for none

abbrev pub module_in : Option vertex.Module → Module
module_in None = no_module
module_in (Some v) = module_of v

abbrev pub source_in : Option vertex.Module → Source
source_in None = no_source
source_in (Some v) = source_of v

abbrev pub targets_in : Option vertex.Module → List (Option Slot)
targets_in None = []
targets_in (Some v) = v.targets

abbrev pub led_to : List (Place vertex.Module) → Option Slot → Module
led_to graph None = no_module
led_to graph (Some s) = module_in (value_at graph s)

-- ---- what a trace is told of it

abbrev pub modules_of : Links → List Module
modules_of l = map (λ s. module_in (value_at l.graph s)) l.slots

abbrev pub sources_of : Links → List Source
sources_of l = map (λ s. source_in (value_at l.graph s)) l.slots

abbrev pub all_targets : Links → List (Option Slot)
all_targets l = flat_map (λ s. targets_in (value_at l.graph s)) l.slots

abbrev pub targets_of : Links → List Module
targets_of l = map (led_to l.graph) (map Some l.roots ++ all_targets l)

-- ---- what it keeps

abbrev pub IsLive : List (Place vertex.Module) → Slot → Type 0
IsLive graph s = (v : vertex.Module) × (value_at graph s ≡ Some v)

abbrev pub IsSet : List (Place vertex.Module) → Option Slot → Type 0
IsSet graph None = ⊥
IsSet graph (Some s) = IsLive graph s

pub record IsLinked (l : Links) : Type 0 where
  pub slots : All (IsLive l.graph) l.slots
  pub roots : All (IsLive l.graph) l.roots
  pub targets : All (IsSet l.graph) (all_targets l)
  pub apart : AreApart l.slots
  pub alone : live l.graph ≡ length l.slots
