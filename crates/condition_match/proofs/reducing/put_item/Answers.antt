use Rattle.std.proofs.Common.{refl, inl, inr}
use Rattle.condition_match.specs.declared.reducing.Reduced.TheVariants.{Null, InvalidTarget, As}
use Rattle.condition_match.proofs.ReduceLemmas.{puts_as, puts_none}
use Rattle.condition_match.proofs.reducing.put_item.Goals as goal

pub put_passed-requires : goal.put_passed-requires
put_passed-requires c = inl refl

pub put_passed-requires-in-InvalidTarget : goal.put_passed-requires-in-InvalidTarget
put_passed-requires-in-InvalidTarget c = inr refl

pub put_front-requires : goal.put_front-requires
put_front-requires c = λ e. cc

pub returns-in-Undefined : goal.returns-in-Undefined
returns-in-Undefined c = puts_none c.args.made c.args.left c.in-Undefined.is

pub returns-in-Null : goal.returns-in-Null
returns-in-Null c = puts_as c.args.made Null c.args.left c.put_passed.result c.in-Null.is c.put_passed.ensures

pub returns-in-InvalidTarget : goal.returns-in-InvalidTarget
returns-in-InvalidTarget c = puts_as c.args.made InvalidTarget c.args.left c.put_passed-in-InvalidTarget.result c.in-InvalidTarget.is c.put_passed-in-InvalidTarget.ensures

pub returns-in-As : goal.returns-in-As
returns-in-As c = puts_as c.args.made (As c.in-As.value) c.args.left c.put_front.result c.in-As.is c.put_front.ensures
