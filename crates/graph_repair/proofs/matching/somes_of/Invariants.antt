use Rattle.std.proofs.Common.{◌≡◌, ◌++◌, length}
use Rattle.graph_repair.specs.Matching.{somes}
use Rattle.graph_repair.proofs.matching.somes_of.Given as goal

-- the slots so far, and those that come
abbrev pub invariant-loop-slot : goal.invariant-loop-slot
invariant-loop-slot l = l.gone.items ++ somes l.rest ≡ somes l.left

abbrev pub decreases-loop-slot : goal.decreases-loop-slot
decreases-loop-slot l = length l.rest
