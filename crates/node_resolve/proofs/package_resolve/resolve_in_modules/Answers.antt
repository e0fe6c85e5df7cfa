use Rattle.std.proofs.Common.{None, Some}
use Rattle.node_spec.specs.PackageResolve.{package_folder, in_folder}
use Rattle.node_spec.specs.declared.Cause.TheVariants.{NotFound}
use Rattle.package_lookup.proofs.Questions.{then_given}
use Rattle.node_resolve.proofs.Answering.{looked_fails, refused_now}
use Rattle.node_resolve.proofs.package_resolve.resolve_in_modules.Goals as goal

pub returns-in-Err-clause-answered : goal.returns-in-Err-clause-answered
returns-in-Err-clause-answered g c =
    looked_fails _ _ (package_folder c.args.from.now c.args.asked.now.name.now)
    (in_folder c.args.conditions.now c.args.asked.now.subpath) c.in-Err.fault c.behind.result c.behind.ensures
    (rw c.in-Err.is at c.find_package.ensures.answered)

pub returns-in-Ok-None-clause-answered : goal.returns-in-Ok-None-clause-answered
returns-in-Ok-None-clause-answered g c =
    then_given _ _ _ (package_folder c.args.from.now c.args.asked.now.name.now)
    (in_folder c.args.conditions.now c.args.asked.now.subpath) None _
    (rw (c.in-Ok-None.is, c.in-Ok-None.field-0-is) at c.find_package.ensures.answered) (refused_now _ NotFound)

pub returns-in-Ok-Some-clause-answered : goal.returns-in-Ok-Some-clause-answered
returns-in-Ok-Some-clause-answered g c =
    then_given _ _ _ (package_folder c.args.from.now c.args.asked.now.name.now)
    (in_folder c.args.conditions.now c.args.asked.now.subpath) (Some c.in-Ok-Some.package_folder) _
    (rw (c.in-Ok-Some.is, c.in-Ok-Some.field-0-is) at c.find_package.ensures.answered)
    (rw c.as_str.ensures at c.resolve_in_folder.ensures.answered)
