use Rattle.layout.proofs.Fits.{none_beyond, none_own, other_chosen}
use Rattle.layout.proofs.penalty.other_than.Goals as goal

pub returns-then-from-width : goal.returns-then-from-width
returns-then-from-width c = none_beyond c.args.width c.args.own c.args.from c.if-from-width.true

pub returns-then-from-own : goal.returns-then-from-own
returns-then-from-own c = none_own c.args.width c.args.own c.args.from c.if-from-width.false c.if-from-own.true

pub returns : goal.returns
returns c = other_chosen c.args.width c.args.own c.args.from c.min.result c.if-from-width.false c.if-from-own.false c.min.ensures
