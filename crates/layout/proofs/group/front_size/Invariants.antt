use Rattle.std.proofs.Common.{length}
use Rattle.layout.proofs.Grouping.{IsTaken}
use Rattle.layout.proofs.group.front_size.Given as goal

abbrev pub invariant-loop-row : goal.invariant-loop-row
invariant-loop-row l = IsTaken l.fn.asked l.fn.rows l.size l.left

abbrev pub decreases-loop-row : goal.decreases-loop-row
decreases-loop-row l = length l.left
