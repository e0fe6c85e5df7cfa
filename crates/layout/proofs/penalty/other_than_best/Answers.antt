use Rattle.std.proofs.Common.{rules}
use Rattle.layout.proofs.Fits.{best_beyond, best_stays, best_changes}
use Rattle.layout.proofs.penalty.other_than_best.Goals as goal

pub returns-in-None : goal.returns-in-None
returns-in-None c = best_beyond c.args.best.now c.args.from (search rules)

pub returns-in-Some-true : goal.returns-in-Some-true
returns-in-Some-true c = best_stays c.args.best.now c.args.from c.in-Some-true.field-0.now (search rules) (search rules) c.in-Some-true.field-0-test

pub returns-in-Some-false : goal.returns-in-Some-false
returns-in-Some-false c = best_changes c.args.best.now c.args.from c.first_best.result c.in-Some-false.field-0.now (search rules) (search rules) c.in-Some-false.field-0-test c.first_best.ensures
