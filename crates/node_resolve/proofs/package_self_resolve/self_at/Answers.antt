use Rattle.std.proofs.Common.{None, Some, Ok}
use Rattle.node_spec.specs.ReadPackageJson.{record_at}
use Rattle.package_lookup.proofs.Questions.{now_given}
use Rattle.package_lookup.specs.Responses.{itself}
use Rattle.package_record.specs.Shown.{record_shown}
use Rattle.node_resolve.specs.Asked.{subpath_of}
use Rattle.node_resolve.specs.SelfNamed.{named_itself_in}
use Rattle.node_resolve.proofs.Answering.{record_fails, then_ok, now_comes}
use Rattle.node_resolve.proofs.package_self_resolve.self_at.Goals as goal

pub returns-in-Err-clause-answered : goal.returns-in-Err-clause-answered
returns-in-Err-clause-answered g c =
    record_fails _ _ (record_at c.args.scope.now)
    (named_itself_in c.args.conditions.now c.args.scope.now (subpath_of c.args.asked.now)) c.in-Err.fault c.behind.result
    c.behind.ensures (rw c.in-Err.is at c.record_under.ensures.record)

pub returns-in-Ok-None-clause-answered : goal.returns-in-Ok-None-clause-answered
returns-in-Ok-None-clause-answered g c =
    then_ok _ _ _ (record_at c.args.scope.now)
    (named_itself_in c.args.conditions.now c.args.scope.now (subpath_of c.args.asked.now)) None _
    (rw (c.in-Ok-None.is, c.in-Ok-None.field-0-is) at c.record_under.ensures.record) (now_given _ (Ok None))

pub returns-in-Ok-Some-clause-answered : goal.returns-in-Ok-Some-clause-answered
returns-in-Ok-Some-clause-answered g c =
    then_ok _ _ _ (record_at c.args.scope.now)
    (named_itself_in c.args.conditions.now c.args.scope.now (subpath_of c.args.asked.now))
    (Some (record_shown c.in-Ok-Some.of_scope.value)) _
    (rw (c.in-Ok-Some.is, c.in-Ok-Some.field-0-is) at c.record_under.ensures.record)
    (now_comes itself _ _ c.self_in.result (rw c.deref.ensures at c.self_in.ensures))
