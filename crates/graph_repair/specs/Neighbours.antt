-- Two traces that are shown one after another.
--     LastsBetween old new      a module of both, whose bytes and specifiers stayed, has the same slot; and a slot of both
--                               stands for the same module, with the same bytes and specifiers
--     SlotsLast                 so it is behind a repair, unless another graph may have been begun
use Rattle.std.specs.Prelude.{◌≡◌, ◌<◌, ◌+◌, ℕ, slice_get, Some}
use Rattle.slot_arena.specs.Slots.{value_at}
use Rattle.slot_arena.specs.declared.slot.Slot.{Slot}
use Rattle.trace_graph.specs.Links.{Links, IsLinked, modules_of}
use Rattle.graph_repair.specs.Matching.{missing, AreOnce, IsAlike}
use Rattle.graph_repair.specs.Repairs.{Repairs, most_made}

pub record LastsBetween (old new : Links) : Type 0 where
  pub kept :
      (i j : ℕ) (s t : Slot) → slice_get old.slots i ≡ Some s → slice_get new.slots j ≡ Some t
      → IsAlike (value_at old.graph s) (value_at new.graph t) → s ≡ t
  pub one :
      (i j : ℕ) (s : Slot) → slice_get old.slots i ≡ Some s → slice_get new.slots j ≡ Some s
      → IsAlike (value_at old.graph s) (value_at new.graph s)

abbrev pub SlotsLast : Type 0
SlotsLast =
    (made : ℕ) (old l new : Links) → IsLinked old → IsLinked l → (repairs : Repairs made old l new)
    → made + missing repairs.keeps < most_made → AreOnce (modules_of old) → AreOnce (modules_of l)
    → LastsBetween old new
