use Rattle.std.proofs.Common.{length}
use Rattle.layout.specs.Laid.{laid_map}
use Rattle.layout.proofs.Choosing.{AllChoose}
use Rattle.layout.proofs.choose.choose.Given as goal

abbrev pub invariant-loop-row : goal.invariant-loop-row
invariant-loop-row l = AllChoose l.fn.nodes l.fn.asked l.fn.targets l.fn.own l.fn.rows.items (laid_map l.fn.laid) l.values.items l.left.items (laid_map l.laid)

abbrev pub decreases-loop-row : goal.decreases-loop-row
decreases-loop-row l = length l.left.items
