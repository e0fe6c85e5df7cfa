-- What a row of places is once a `&mut` to the value of one of them has ended: that place has the value last written.
--
-- lends_from_chunk R c i r     the row is a chunk
-- lends_from_row R p i r       the row is that of all chunks
use Rattle.std.specs.Prelude.{ℕ, List, Option, Some, slice_set}
use Rattle.std.specs.Borrow.{Fml, RattleType, MutBor, Lends}
use Rattle.slot_arena.specs.contracts.chunk.Chunk.{the_row as chunk_row}
use Rattle.slot_arena.specs.contracts.places.Places.{the_row as places_row}

abbrev pub lends_from_chunk : (R : RattleType) → MutBor (List (Option R.Denot)) → ℕ → MutBor R.Denot → Fml
lends_from_chunk R c i r = Lends (chunk_row R) R c r (λ w. slice_set c.now i (Some w))

abbrev pub lends_from_row : (R : RattleType) → MutBor (List (Option R.Denot)) → ℕ → MutBor R.Denot → Fml
lends_from_row R p i r = Lends (places_row R) R p r (λ w. slice_set p.now i (Some w))
