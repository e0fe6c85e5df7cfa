use Rattle.layout.specs.Fits.{all_fits}
use Rattle.layout.proofs.Fits.{own_penalties}
use Rattle.layout.proofs.costs.Costs.penalties.Goals as goal

pub returns-in-Some : goal.returns-in-Some
returns-in-Some c =
    own_penalties c.args.own c.self.inside.width c.self.inside.total c.in-Some.number (all_fits c.self.inside.width c.self.inside.total c.self.inside.alone c.self.inside.fits.items) c.alone.result c.args.self
    c.self.view_is c.self.invariant c.in-Some.is c.alone.ensures
