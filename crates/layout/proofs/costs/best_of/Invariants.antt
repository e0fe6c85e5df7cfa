use Rattle.std.proofs.Common.{◌≡◌, ◌++◌, length}
use Rattle.layout.specs.Fits.{best_at, greatest_from}
use Rattle.layout.proofs.costs.best_of.Given as goal

abbrev pub invariant-loop-fit : goal.invariant-loop-fit
invariant-loop-fit l = l.best.items ++ best_at (greatest_from 0 l.fn.fits) l.left ≡ best_at (greatest_from 0 l.fn.fits) l.fn.fits

abbrev pub decreases-loop-fit : goal.decreases-loop-fit
decreases-loop-fit l = length l.left
