-- What a caller may do with an arena, one call after another.
--
-- Calls start a     the calls led from start to a: they made places, inserted, wrote through a `&mut`, removed
use Rattle.std.specs.Prelude.{◌≡◌, ℕ, List, Some, None}
use Rattle.slot_arena.specs.Slots.{Place, value_at, IsFresh, set_at, with_places}
use Rattle.slot_arena.specs.declared.slot.Slot.{Slot}

pub data Calls {X : Type 0} (start : List (Place X)) : List (Place X) → Type 0 where
  begin : Calls start start
  reserved : {a : List (Place X)} (n : ℕ) → Calls start a → Calls start (with_places a n)
  inserted : {a : List (Place X)} (s : Slot) (x : X) → IsFresh a s → Calls start a → Calls start (set_at a s (Some x))
  written : {a : List (Place X)} (s : Slot) (x y : X) → value_at a s ≡ Some x → Calls start a
      → Calls start (set_at a s (Some y))
  removed : {a : List (Place X)} (s : Slot) (x : X) → value_at a s ≡ Some x → Calls start a
      → Calls start (set_at a s None)
