use Rattle.std.proofs.Common.{◌≡◌, ◌≤◌, ◌+◌, ◌++◌, length}
use Rattle.std.specs.Prelude.{vec_len, vec_capacity}
use Rattle.graph_repair.specs.Matching.{missing, filled}
use Rattle.graph_repair.proofs.repair.filled_in.Given as goal

-- what is filled, and what is left to fill
abbrev pub invariant-loop-keep : goal.invariant-loop-keep
invariant-loop-keep l = record {
  filled_so : l.slots.items ++ filled l.rest l.left ≡ filled l.keeps l.given;
  enough : missing l.rest ≡ length l.left;
  room : vec_len l.slots + length l.rest ≤ vec_capacity l.slots;
}

abbrev pub decreases-loop-keep : goal.decreases-loop-keep
decreases-loop-keep l = length l.rest
