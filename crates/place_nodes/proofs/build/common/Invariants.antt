use Rattle.std.proofs.Common.{◌≡◌, ◌+◌, length}
use Rattle.place_nodes.specs.Building.{common}
use Rattle.place_nodes.proofs.build.common.Given as goal

abbrev pub invariant-loop-b : goal.invariant-loop-b
invariant-loop-b l = (l.count + common l.left l.right ≡ common l.fn.one l.fn.other) × (l.count + length l.left ≡ length l.fn.one)

abbrev pub decreases-loop-b : goal.decreases-loop-b
decreases-loop-b l = length l.left
