use Rattle.std.proofs.Common.{◌≡◌, length, []}
use Rattle.layout.specs.Groups.{targets_onto}
use Rattle.layout.proofs.group.targets_of.Given as goal

abbrev pub invariant-loop-row : goal.invariant-loop-row
invariant-loop-row l = targets_onto l.targets.keys l.left ≡ targets_onto [] l.fn.rows

abbrev pub decreases-loop-row : goal.decreases-loop-row
decreases-loop-row l = length l.left
