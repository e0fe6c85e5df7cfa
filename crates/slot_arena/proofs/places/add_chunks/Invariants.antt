use Rattle.std.proofs.Common.{◌≡◌, ◌+◌, ◌≤◌, vec_len, vec_capacity}
use Rattle.slot_arena.specs.Rows.{with_chunks}
use Rattle.slot_arena.proofs.places.add_chunks.Given as goal

abbrev pub invariant-loop-made : goal.invariant-loop-made
invariant-loop-made g l = record {
  items : l.chunks.items ≡ with_chunks l.fn.chunks.items l.made;
  room : vec_len l.chunks + l.count ≤ vec_capacity l.chunks + l.made;
}
