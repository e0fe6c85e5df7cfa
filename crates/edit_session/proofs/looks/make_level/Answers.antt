use Rattle.edit_session.proofs.LooksAgree.{agrees_there, agrees_as_well, agrees_same, agrees_all}
use Rattle.edit_session.proofs.looks.make_level.Goals as goal

pub loop-path-preserved : goal.loop-path-preserved
loop-path-preserved c = (
  agrees_there c.args.laid.now c.loop-path.over c.follow.new.self c.in-Some.path.now (rw c.in-Ok.is at c.follow.ensures.followed)
      c.loop-path.rest.now c.in-Some.more.now c.in-Some.ensures.cases.0 c.loop-path.invariant.0,
  agrees_as_well c.args.laid.now c.loop-path.over c.follow.new.self c.in-Some.path.now (rw c.in-Ok.is at c.follow.ensures.followed)
      c.args.changed.now c.loop-path.invariant.1,
)

pub returns-in-Err-clause-agree : goal.returns-in-Err-clause-agree
returns-in-Err-clause-agree c =
    agrees_same c.args.changed.now c.args.laid.now c.loop-path.over c.follow.new.self (rw c.in-Err.is at c.follow.ensures.same)
    c.loop-path.invariant.1

pub returns-clause-agree : goal.returns-clause-agree
returns-clause-agree c = c.loop-path.invariant.1

pub returns-clause-level : goal.returns-clause-level
returns-clause-level c = agrees_all c.loop-path.rest.now c.args.laid.now c.loop-path.over c.in_default.ensures.cases c.loop-path.invariant.0
