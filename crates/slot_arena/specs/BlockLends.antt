-- What the owner of a block is once a `&mut` to the value of a place has ended: that place has the value last written.
--
-- with_places_of r vs         r with these places
-- lends_from_block R r i l    the value of the i-th place of r is lent as l
use Rattle.std.specs.Prelude.{ℕ, List, Option, Some, slice_set}
use Rattle.std.specs.Borrow.{Fml, RattleType, MutBor, Lends}
use Rattle.slot_arena.specs.declared.block.Row.{Row}
use Rattle.slot_arena.specs.contracts.block.Row.{the_row}

abbrev pub with_places_of : {X : Type 0} → Row X → List (Option X) → Row X
with_places_of r vs = record { mark = r.mark; start = r.start; places = vs }

abbrev pub lends_from_block : (R : RattleType) → MutBor (Row R.Denot) → ℕ → MutBor R.Denot → Fml
lends_from_block R r i l = Lends (the_row R) R r l (λ w. with_places_of r.now (slice_set r.now.places i (Some w)))
