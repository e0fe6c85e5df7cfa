-- A block, and a place of its row, as the functions over a block ask for them and leave them.
--
-- IsEmptyBlock start row right n alloc     n empty places that came from alloc, and the right to give them back to it
-- IsEmptyAt row start i     the row begins at start, and its i-th place is empty
-- IsFilledAt row start i    .. and its i-th place has a value
-- IsSetAt old new i v       the new row is the old one with v in the i-th place
use Rattle.std.specs.Prelude.{◌≡◌, ℕ, ◌<◌, length, replicate, get_or, slice_set, Option, None}
use Rattle.slot_arena.specs.declared.block.Start.{Start}
use Rattle.slot_arena.specs.declared.block.Row.{Row}
use Rattle.slot_arena.specs.declared.block.Right.{Right}
use Rattle.slot_arena.specs.Rows.{IsFilled}

module _ {X : Type 0} where
  abbrev pub IsEmptyBlock : {A : Type 0} → Start X → Row X → Right X A → ℕ → A → Type 0
  IsEmptyBlock start row right n alloc =
      (row.start ≡ start.first) × (row.places ≡ replicate n None) × (right.start ≡ start.first) × (right.count ≡ n)
      × (right.from ≡ alloc)

  abbrev pub IsEmptyAt : Row X → Start X → ℕ → Type 0
  IsEmptyAt row start i = (start.first ≡ row.start) × (i < length row.places) × (get_or row.places i None ≡ None)

  abbrev pub IsFilledAt : Row X → Start X → ℕ → Type 0
  IsFilledAt row start i = (start.first ≡ row.start) × IsFilled row.places i

  abbrev pub IsSetAt : Row X → Row X → ℕ → Option X → Type 0
  IsSetAt old new i v = (new.start ≡ old.start) × (new.places ≡ slice_set old.places i v)
