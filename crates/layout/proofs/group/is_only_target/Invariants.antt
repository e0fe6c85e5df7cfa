use Rattle.std.proofs.Common.{length}
use Rattle.layout.proofs.Grouping.{OnlySoFar}
use Rattle.layout.proofs.group.is_only_target.Given as goal

abbrev pub invariant-loop-row : goal.invariant-loop-row
invariant-loop-row l = OnlySoFar l.fn.target l.fn.rows l.left

abbrev pub decreases-loop-row : goal.decreases-loop-row
decreases-loop-row l = length l.left
