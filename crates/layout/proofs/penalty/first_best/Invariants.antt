use Rattle.std.proofs.Common.{◌≡◌, ◌+◌, length}
use Rattle.layout.specs.Choices.{first_free}
use Rattle.layout.specs.Fits.{best_row}
use Rattle.layout.proofs.penalty.first_best.Given as goal

abbrev pub invariant-loop-is_best : goal.invariant-loop-is_best
invariant-loop-is_best l = (l.number + first_free (best_row l.left) ≡ first_free (best_row l.fn.best)) × (l.number + length l.left ≡ length l.fn.best)

abbrev pub decreases-loop-is_best : goal.decreases-loop-is_best
decreases-loop-is_best l = length l.left
