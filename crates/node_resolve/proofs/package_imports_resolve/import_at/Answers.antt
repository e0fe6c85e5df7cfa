use Rattle.ordered_json.specs.Lists.{pairs_of}
use Rattle.ordered_json.specs.Shown.{json_of, members_of}
use Rattle.std.proofs.Common.{true, refl, sym, ap, ◌∙◌}
use Rattle.node_spec.specs.PackageImportsResolve.{import_paths}
use Rattle.node_spec.specs.declared.Cause.TheVariants.{ImportNotDefined}
use Rattle.package_lookup.proofs.Questions.{asking_as}
use Rattle.node_resolve.proofs.Answering.{memory_now, refused_now}
use Rattle.node_resolve.specs.declared.fault.NodeFault.TheVariants.{Memory}
use Rattle.ordered_json.proofs.ShownLemmas.{json_of_object}
use Rattle.node_resolve.proofs.MemberLemmas.{distinct_in}
use Rattle.node_resolve.proofs.KeyLemmas.{key_none, key_some}
use Rattle.node_resolve.proofs.package_imports_resolve.import_at.Goals as goal

pub returns-in-Err-clause-answered : goal.returns-in-Err-clause-answered
returns-in-Err-clause-answered g c = memory_now _ _ Memory refl

pub target_of-requires-clause-distinct : goal.target_of-requires-clause-distinct
target_of-requires-clause-distinct g c = distinct_in _ _ (ap json_of c.requires.object ∙ json_of_object _) c.requires.subpaths.distinct

pub target_of-requires-clause-indexed : goal.target_of-requires-clause-indexed
target_of-requires-clause-indexed g c = (c.requires.subpaths.indexed _ (ap json_of c.requires.object ∙ json_of_object _)).keys

pub returns-in-Ok-None-clause-answered : goal.returns-in-Ok-None-clause-answered
returns-in-Ok-None-clause-answered g c =
    asking_as _ _ _ _ _
    (sym (key_none (import_paths c.args.conditions.now c.args.scope.now (members_of (pairs_of c.args.members.now))) c.args.text.now
    (rw (c.in-Ok-None.is, c.in-Ok-None.field-0-is) at (c.target_of.ensures true c.requires.subpaths)))) (refused_now _ ImportNotDefined)

pub returns-in-Ok-Some-clause-answered : goal.returns-in-Ok-Some-clause-answered
returns-in-Ok-Some-clause-answered g c =
    let found = rw (c.in-Ok-Some.is, c.in-Ok-Some.field-0-is) at (c.target_of.ensures true c.requires.subpaths) in
    asking_as _ _ _ _ _
    (sym (key_some (import_paths c.args.conditions.now c.args.scope.now (members_of (pairs_of c.args.members.now))) c.args.text.now
    found.target _ found.is)) (c.import_target.ensures.answered found.target found.comes)
