use Rattle.std.proofs.Common.{arith}
use Rattle.slot_arena.proofs.Joined.{all_empty}
use Rattle.slot_arena.proofs.chunk.Chunk.drop.Goals as goal

pub free-requires : goal.free-requires
free-requires g c = all_empty c.loop-place.self 64 c.loop-place.invariant.0 (λ i lt. c.loop-place.invariant.1 i (omega (arith, lt, c.loop-place-test.false)))
