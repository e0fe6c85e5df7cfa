use Rattle.std.proofs.Common.{◌≡◌, ◌+◌, length}
use Rattle.layout.specs.Fits.{fitted_from}
use Rattle.layout.proofs.penalty.fit_each.Given as goal

abbrev pub invariant-loop-is_best : goal.invariant-loop-is_best
invariant-loop-is_best l = (fitted_from l.number l.left l.fits.items ≡ fitted_from 0 l.fn.best l.fn.fits.items) × (l.number + length l.left ≡ length l.fn.best)

abbrev pub decreases-loop-is_best : goal.decreases-loop-is_best
decreases-loop-is_best l = length l.left
