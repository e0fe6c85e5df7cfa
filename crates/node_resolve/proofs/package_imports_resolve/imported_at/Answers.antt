use Rattle.std.proofs.Common.{None, Some}
use Rattle.node_spec.specs.PackageImportsResolve.{imported_in}
use Rattle.node_spec.specs.ReadPackageJson.{record_at}
use Rattle.node_spec.specs.declared.Cause.TheVariants.{ImportNotDefined}
use Rattle.package_record.specs.Shown.{record_shown}
use Rattle.node_resolve.proofs.Answering.{record_fails, then_ok, refused_now}
use Rattle.node_resolve.proofs.package_imports_resolve.imported_at.Goals as goal

pub returns-in-Err-clause-answered : goal.returns-in-Err-clause-answered
returns-in-Err-clause-answered g c =
    record_fails _ _ (record_at c.args.scope.now)
    (imported_in c.args.conditions.now c.args.scope.now c.args.text.now) c.in-Err.fault c.behind.result
    c.behind.ensures (rw c.in-Err.is at c.record_under.ensures.record)

pub returns-in-Ok-None-clause-answered : goal.returns-in-Ok-None-clause-answered
returns-in-Ok-None-clause-answered g c =
    then_ok _ _ _ (record_at c.args.scope.now)
    (imported_in c.args.conditions.now c.args.scope.now c.args.text.now) None _
    (rw (c.in-Ok-None.is, c.in-Ok-None.field-0-is) at c.record_under.ensures.record) (refused_now _ ImportNotDefined)

pub returns-in-Ok-Some-clause-answered : goal.returns-in-Ok-Some-clause-answered
returns-in-Ok-Some-clause-answered g c =
    then_ok _ _ _ (record_at c.args.scope.now)
    (imported_in c.args.conditions.now c.args.scope.now c.args.text.now)
    (Some (record_shown c.in-Ok-Some.of_scope.value)) _
    (rw (c.in-Ok-Some.is, c.in-Ok-Some.field-0-is) at c.record_under.ensures.record) (rw c.deref.ensures at c.imported.ensures.answered)
