use Rattle.std.proofs.Common.{false, Err, ap, ◌∙◌}
use Rattle.ordered_json.specs.Lists.{pairs_of}
use Rattle.ordered_json.specs.Shown.{json_of, members_of}
use Rattle.ordered_json.proofs.ShownLemmas.{json_of_object}
use Rattle.node_resolve.proofs.MemberLemmas.{distinct_in}
use Rattle.node_spec.specs.PackageExportsResolve.{export_paths}
use Rattle.node_spec.specs.declared.Cause.TheVariants.{NotExported}
use Rattle.package_lookup.specs.Responses.{itself}
use Rattle.node_resolve.specs.declared.fault.NodeFault.TheVariants.{Refused}
use Rattle.node_resolve.proofs.Answering.{gives_as}
use Rattle.node_resolve.proofs.KeyLemmas.{key_none, key_some}
use Rattle.node_resolve.proofs.TargetLemmas.{given_now}
use Rattle.node_resolve.proofs.package_exports_resolve.export_at.Goals as goal

pub returns-in-Err : goal.returns-in-Err
returns-in-Err c = tt

pub target_of-requires-clause-distinct : goal.target_of-requires-clause-distinct
target_of-requires-clause-distinct c = distinct_in _ _ (ap json_of c.requires.object ∙ json_of_object _) c.requires.subpaths.distinct

pub target_of-requires-clause-indexed : goal.target_of-requires-clause-indexed
target_of-requires-clause-indexed c = (c.requires.subpaths.indexed _ (ap json_of c.requires.object ∙ json_of_object _)).keys

pub returns-in-Ok-None : goal.returns-in-Ok-None
returns-in-Ok-None c =
    gives_as itself _ _ (Err (Refused NotExported))
    (key_none (export_paths c.args.conditions.now c.args.package_folder.now (members_of (pairs_of c.args.members.now))) c.args.subpath.now
    (rw (c.in-Ok-None.is, c.in-Ok-None.field-0-is) at (c.target_of.ensures false c.requires.subpaths))) (given_now _)

pub returns-in-Ok-Some : goal.returns-in-Ok-Some
returns-in-Ok-Some c =
    let found = rw (c.in-Ok-Some.is, c.in-Ok-Some.field-0-is) at (c.target_of.ensures false c.requires.subpaths) in
    gives_as itself _ _ c.export_target.result
    (key_some (export_paths c.args.conditions.now c.args.package_folder.now (members_of (pairs_of c.args.members.now))) c.args.subpath.now
    found.target _ found.is) (c.export_target.ensures found.target found.comes)
