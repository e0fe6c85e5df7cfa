use Rattle.std.proofs.Common.{rules, subst}
use Rattle.layout.specs.Fits.{all_fits, IsAlone}
use Rattle.layout.proofs.Fits.{alone_free, best_free}
use Rattle.layout.proofs.costs.best.Goals as goal

pub returns-in-Some : goal.returns-in-Some
returns-in-Some c = λ most.
    alone_free c.args.width c.args.total c.in-Some.number c.args.alone c.args.fits.items c.alone.result
    (subst (λ fs. IsAlone c.args.width c.args.total c.args.alone fs c.in-Some.number) c.as_slice.ensures.value c.in-Some.ensures) c.alone.ensures most

pub returns : goal.returns
returns c = λ most.
    best_free c.args.total c.in_ok-all.all.items (all_fits c.args.width c.args.total c.args.alone c.args.fits.items) c.of.result c.in_ok-all.ensures (search rules) most
