-- What is looked at of a graph by hand.
--
-- first_target g s     the target of the first request of the module under the slot s, where there is one
use Rattle.std.specs.Prelude.{List, Option, Some, None}
use Rattle.slot_arena.specs.Slots.{Place, value_at}
use Rattle.slot_arena.specs.declared.slot.Slot.{Slot}
use Rattle.module_graph.specs.declared.module.Module.{Module}
use Rattle.module_graph.specs.Modules.{target_at}

abbrev pub first_target_of : Option Module → Option Slot
first_target_of None = None
first_target_of (Some m) = target_at m 0

abbrev pub first_target : List (Place Module) → Slot → Option Slot
first_target g s = first_target_of (value_at g s)
