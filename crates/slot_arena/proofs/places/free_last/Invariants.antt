use Rattle.std.proofs.Common.{◌≡◌, List, Option}
use Rattle.slot_arena.specs.Rows.{with_chunks}
use Rattle.slot_arena.proofs.places.free_last.Given as goal

-- what stays, and the last chunks behind it
abbrev pub invariant-loop-left : goal.invariant-loop-left
invariant-loop-left g l = (rest : List (List (Option g.row.T.Denot))) × (l.fn.chunks.items ≡ with_chunks rest l.fn.count) × (l.chunks.items ≡ with_chunks rest l.left)

abbrev pub decreases-loop-left : goal.decreases-loop-left
decreases-loop-left g l = l.left
