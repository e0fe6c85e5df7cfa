use Rattle.std.proofs.Common.{arith}
use Rattle.slot_arena.specs.Kept.{paired}
use Rattle.slot_arena.proofs.PlaceLemmas.{spare_live-le}
use Rattle.slot_arena.proofs.arena.SlotArena.spare.Goals as goal

pub overflow_cast-result : goal.overflow_cast-result
overflow_cast-result g c =
    let k = c.self.invariant.1 in
    omega (arith, c.len.ensures, k.all_spare, k.is_small, spare_live-le (paired c.self.inside.places c.self.inside.next.items), c.self.inside.free.ok.0)
