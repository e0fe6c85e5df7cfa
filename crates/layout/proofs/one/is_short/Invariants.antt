use Rattle.std.proofs.Common.{length}
use Rattle.layout.proofs.Sizes.{HasRoom}
use Rattle.layout.proofs.one.is_short.Given as goal

abbrev pub invariant-loop-row : goal.invariant-loop-row
invariant-loop-row l = HasRoom l.fn.rows l.left l.room

abbrev pub decreases-loop-row : goal.decreases-loop-row
decreases-loop-row l = length l.left
