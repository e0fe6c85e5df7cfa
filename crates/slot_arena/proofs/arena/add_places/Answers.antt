use Rattle.std.proofs.Common.{◌++◌, ◌-◌, replicate, ap, ◌∙◌, arith}
use Rattle.slot_arena.specs.Kept.{down_to}
use Rattle.slot_arena.proofs.Fields.{replicate-step, down_to-step}
use Rattle.slot_arena.proofs.arena.add_places.Goals as goal

pub loop-left-preserved : goal.loop-left-preserved
loop-left-preserved c =
    let v = c.loop-left.invariant in let left = c.loop-left.left in let some = c.loop-left-test.true in
    record {
      next = ap (λ l. l ++ replicate (left - 1) 0) c.push_reserved.ensures.items ∙ replicate-step c.loop-left.next.items 0 left some ∙ v.next;
      free = ap (λ l. l ++ down_to c.args.from (left - 1)) c.push_reserved-in-loop-left.ensures.items ∙ down_to-step c.loop-left.free.items c.args.from left some ∙ v.free;
      next_room = omega (arith, c.push_reserved.ensures.len, c.push_reserved.ensures.capacity, v.next_room, some);
      free_room = omega (arith, c.push_reserved-in-loop-left.ensures.len, c.push_reserved-in-loop-left.ensures.capacity, v.free_room, some);
      left = omega (arith, v.left);
      capacity = c.push_reserved-in-loop-left.ensures.capacity ∙ v.capacity;
    }
