use Rattle.std.proofs.Common.{length, ◌≤◌}
use Rattle.layout.proofs.Settling.{AllSettle}
use Rattle.layout.proofs.settle.settled.Given as goal

abbrev pub invariant-loop-costs : goal.invariant-loop-costs
invariant-loop-costs l = AllSettle l.fn.nodes l.fn.width l.open.items l.rows.items × (length l.open.items ≤ length l.fn.nodes)

abbrev pub decreases-loop-costs : goal.decreases-loop-costs
decreases-loop-costs l = length l.open.items
