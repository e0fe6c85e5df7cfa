use Rattle.std.proofs.Common.{length}
use Rattle.layout.specs.Laid.{laid_map}
use Rattle.layout.proofs.Ways.{IsOnWay}
use Rattle.layout.proofs.fewest.lay_rows.Given as goal

abbrev pub invariant-loop-group : goal.invariant-loop-group
invariant-loop-group l = IsOnWay l.fn.rows l.left (laid_map l.laid)

abbrev pub decreases-loop-group : goal.decreases-loop-group
decreases-loop-group l = length l.left
