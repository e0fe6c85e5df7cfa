use Rattle.std.proofs.Common.{None, Some, Ok}
use Rattle.node_spec.specs.LookupPackageScope.{package_scope}
use Rattle.package_lookup.proofs.Questions.{then_given, now_given}
use Rattle.node_resolve.specs.Asked.{subpath_of}
use Rattle.node_resolve.specs.SelfNamed.{named_itself_at}
use Rattle.node_resolve.proofs.Answering.{looked_fails}
use Rattle.node_resolve.proofs.package_self_resolve.package_self_resolve.Goals as goal

pub returns-in-Err-clause-answered : goal.returns-in-Err-clause-answered
returns-in-Err-clause-answered g c =
    looked_fails _ _ (package_scope c.args.from.now)
    (named_itself_at c.args.conditions.now (subpath_of c.args.asked.now)) c.in-Err.fault c.behind.result c.behind.ensures
    (rw c.in-Err.is at c.scope_of.ensures.answered)

pub returns-in-Ok-None-clause-answered : goal.returns-in-Ok-None-clause-answered
returns-in-Ok-None-clause-answered g c =
    then_given _ _ _ (package_scope c.args.from.now)
    (named_itself_at c.args.conditions.now (subpath_of c.args.asked.now)) None _
    (rw (c.in-Ok-None.is, c.in-Ok-None.field-0-is) at c.scope_of.ensures.answered) (now_given _ (Ok None))

pub returns-in-Ok-Some-clause-answered : goal.returns-in-Ok-Some-clause-answered
returns-in-Ok-Some-clause-answered g c =
    then_given _ _ _ (package_scope c.args.from.now)
    (named_itself_at c.args.conditions.now (subpath_of c.args.asked.now)) (Some c.in-Ok-Some.scope) _
    (rw (c.in-Ok-Some.is, c.in-Ok-Some.field-0-is) at c.scope_of.ensures.answered) c.self_at.ensures.answered
