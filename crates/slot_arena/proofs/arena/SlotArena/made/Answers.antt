use Rattle.std.proofs.Common.{arith}
use Rattle.slot_arena.proofs.Paired.{length-paired}
use Rattle.slot_arena.proofs.arena.SlotArena.made.Goals as goal

pub overflow_cast-result : goal.overflow_cast-result
overflow_cast-result g c =
    let e = c.self.invariant.0 in let k = c.self.invariant.1 in
    omega (arith, c.len.ensures, e, k.is_small, length-paired c.self.inside.places c.self.inside.next.items e, c.self.inside.next.ok.0)

pub returns-clause-count : goal.returns-clause-count
returns-clause-count g c =
    let e = c.self.invariant.0 in
    rw (← c.self.view_is) (omega (arith, c.len.ensures, e, length-paired c.self.inside.places c.self.inside.next.items e, c.self.inside.next.ok.0))
