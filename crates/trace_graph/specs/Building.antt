-- A graph that is built of modules.
--     place_of modules place      the module at a place
--     AreLinked graph slots modules leads      the modules stand under these slots, with the targets of their requests
--                                              at these places, and nothing else is in the graph
--     IsGraphOf modules leads l                the graph is told as these modules, whose requests and the page's lead to
--                                              these places
use Rattle.std.specs.Prelude.{◌≡◌, ℕ, List, length, map, get_or, Some}
use Rattle.slot_arena.specs.Slots.{Place, value_at}
use Rattle.slot_arena.specs.Counts.{live}
use Rattle.slot_arena.specs.declared.slot.Slot.{Slot}
use Rattle.module_graph.specs.declared.module.Module as vertex
use Rattle.module_graph.specs.Many.{AreApart, dealt, slot_in}
use Rattle.trace_spec.specs.Modules.{Module}
use Rattle.trace_spec.specs.Laws.{no_module}
use Rattle.trace_graph.specs.Links.{Links, module_of, source_of, modules_of, sources_of, targets_of}

abbrev pub place_of : List Module → ℕ → Module
place_of modules place = get_or modules place no_module

pub record AreLinked (graph : List (Place vertex.Module)) (slots : List Slot) (modules : List vertex.Module)
    (leads : List ℕ) : Type 0 where
  pub under : map (value_at graph) slots ≡ map Some (dealt modules (map (slot_in slots) leads))
  pub apart : AreApart slots
  pub alone : live graph ≡ length slots
  pub count : length slots ≡ length modules

pub record IsGraphOf (modules : List vertex.Module) (leads : List ℕ) (l : Links) : Type 0 where
  pub modules_are : modules_of l ≡ map module_of modules
  pub sources_are : sources_of l ≡ map source_of modules
  pub targets_are : targets_of l ≡ map (place_of (map module_of modules)) leads
