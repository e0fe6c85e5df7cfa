use Rattle.std.proofs.Common.{◌≡◌, length}
use Rattle.layout.specs.Fits.{greatest_from}
use Rattle.layout.proofs.costs.greatest_of.Given as goal

abbrev pub invariant-loop-fit : goal.invariant-loop-fit
invariant-loop-fit l = greatest_from l.greatest l.left ≡ greatest_from 0 l.fn.fits

abbrev pub decreases-loop-fit : goal.decreases-loop-fit
decreases-loop-fit l = length l.left
