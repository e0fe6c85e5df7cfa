use Rattle.place_nodes.proofs.Walking.{IsWay, bound}
use Rattle.place_nodes.proofs.nodes.above_of.Given as goal

abbrev pub invariant-loop-next : goal.invariant-loop-next
invariant-loop-next l = IsWay l.fn.nodes l.fn.place l.next

abbrev pub decreases-loop-next : goal.decreases-loop-next
decreases-loop-next l = bound l.next
