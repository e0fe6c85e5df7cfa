use Rattle.std.proofs.Common.{None, Some}
use Rattle.node_spec.specs.PackageResolve.{by_record}
use Rattle.node_spec.specs.ReadPackageJson.{record_at}
use Rattle.package_record.specs.Shown.{record_shown}
use Rattle.node_resolve.proofs.Answering.{record_fails, then_ok}
use Rattle.node_resolve.proofs.package_resolve.resolve_in_folder.Goals as goal

pub returns-in-Err-clause-answered : goal.returns-in-Err-clause-answered
returns-in-Err-clause-answered g c =
    record_fails _ _ (record_at c.args.package_folder.now)
    (by_record c.args.conditions.now c.args.package_folder.now c.args.subpath.now) c.in-Err.fault c.behind.result
    c.behind.ensures (rw c.in-Err.is at c.record_under.ensures.record)

pub returns-in-Ok-None-clause-answered : goal.returns-in-Ok-None-clause-answered
returns-in-Ok-None-clause-answered g c =
    then_ok _ _ _ (record_at c.args.package_folder.now)
    (by_record c.args.conditions.now c.args.package_folder.now c.args.subpath.now) None _
    (rw (c.in-Ok-None.is, c.in-Ok-None.field-0-is) at c.record_under.ensures.record) c.resolve_file.ensures.answered

pub returns-in-Ok-Some-clause-answered : goal.returns-in-Ok-Some-clause-answered
returns-in-Ok-Some-clause-answered g c =
    then_ok _ _ _ (record_at c.args.package_folder.now)
    (by_record c.args.conditions.now c.args.package_folder.now c.args.subpath.now)
    (Some (record_shown c.in-Ok-Some.of_package.value)) _
    (rw (c.in-Ok-Some.is, c.in-Ok-Some.field-0-is) at c.record_under.ensures.record) (rw c.deref.ensures at c.resolve_by_record.ensures.answered)
