use Rattle.std.proofs.Common.{rules}
use Rattle.layout.proofs.Fits.{fitted_past, fitted_at}
use Rattle.layout.proofs.penalty.fit.Goals as goal

pub returns-in_default : goal.returns-in_default
returns-in_default c = fitted_past c.args.number c.args.fits.now.items (search rules)

pub returns : goal.returns
returns c = fitted_at c.args.number c.in-Some.count.now c.in-Some-checked_add.more c.args.fits.now.items (search rules) (search rules) (search rules)
