use Rattle.std.proofs.Common.{rules}
use Rattle.layout.proofs.Fits.{own_pays, best_pays}
use Rattle.layout.proofs.penalty.Penalties.pay.Goals as goal
use Rattle.layout.proofs.penalty.Penalties.pay.Goals.{in-Some+in_ok-fit-in-Some, in-None+in_ok-fit_each-in-None}

pub returns : goal.returns
returns c = elim c.match-self.branch [
  | in-Some+in_ok-fit-in-Some w ↦
      own_pays c.self.inside.own c.self.inside.width w.in-Some.own c.self.inside.best.items c.args.fits.items c.match-self.more.items c.args.self.now c.self.view_is (search rules) (search rules)
  | in-None+in_ok-fit_each-in-None w ↦
      best_pays c.self.inside.own c.self.inside.width c.self.inside.best.items c.args.fits.items c.match-self.more.items c.args.self.now c.self.view_is (search rules) (search rules)
]
