-- What a caller may do with a graph, one call after another.
--
-- Calls start g     the calls led from start to g: they made places, added, connected, removed
use Rattle.std.specs.Prelude.{◌≡◌, ℕ, List, Some, None}
use Rattle.slot_arena.specs.Slots.{Place, value_at, IsFresh, set_at, with_places}
use Rattle.slot_arena.specs.declared.slot.Slot.{Slot}
use Rattle.module_graph.specs.declared.module.Module.{Module}
use Rattle.module_graph.specs.Modules.{with_target}

pub data Calls (start : List (Place Module)) : List (Place Module) → Type 0 where
  begin : Calls start start
  reserved : {g : List (Place Module)} (n : ℕ) → Calls start g → Calls start (with_places g n)
  added : {g : List (Place Module)} (s : Slot) (m : Module) → IsFresh g s → Calls start g
      → Calls start (set_at g s (Some m))
  connected : {g : List (Place Module)} (s : Slot) (m : Module) (i : ℕ) (to : Slot) → value_at g s ≡ Some m
      → Calls start g → Calls start (set_at g s (Some (with_target m i to)))
  removed : {g : List (Place Module)} (s : Slot) (m : Module) → value_at g s ≡ Some m → Calls start g
      → Calls start (set_at g s None)
