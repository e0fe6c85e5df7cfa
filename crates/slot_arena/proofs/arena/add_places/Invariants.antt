use Rattle.std.proofs.Common.{◌≡◌, ◌++◌, ◌+◌, ◌≤◌, replicate, vec_len, vec_capacity}
use Rattle.slot_arena.specs.Kept.{down_to}
use Rattle.slot_arena.proofs.arena.add_places.Given as goal

abbrev pub invariant-loop-left : goal.invariant-loop-left
invariant-loop-left l = record {
  next : l.next.items ++ replicate l.left 0 ≡ l.fn.next.items ++ replicate l.fn.count 0;
  free : l.free.items ++ down_to l.from l.left ≡ l.fn.free.items ++ down_to l.from l.fn.count;
  next_room : vec_len l.next + l.left ≤ vec_capacity l.next;
  free_room : vec_len l.free + l.left ≤ vec_capacity l.free;
  left : l.left ≤ l.fn.count;
  capacity : vec_capacity l.free ≡ vec_capacity l.fn.free;
}

abbrev pub decreases-loop-left : goal.decreases-loop-left
decreases-loop-left l = l.left
