use Rattle.std.proofs.Common.{ap, sym, ◌∙◌}
use Rattle.ordered_json.specs.Shown.{json_of}
use Rattle.ordered_json.proofs.ShownLemmas.{json_of_list, json_of_object, json_of_text}
use Rattle.node_spec.specs.PackageImportsResolve.{imported}
use Rattle.node_spec.specs.declared.Cause.TheVariants.{ImportNotDefined}
use Rattle.package_lookup.proofs.Questions.{asking_as}
use Rattle.node_resolve.proofs.Answering.{refused_now}
use Rattle.ordered_json.proofs.IsJsonLemmas.{json_of_null, json_of_bool, json_of_number}
use Rattle.node_resolve.proofs.package_imports_resolve.imported.Goals as goal

pub returns-in-Object-clause-answered : goal.returns-in-Object-clause-answered
returns-in-Object-clause-answered g c =
    asking_as _ _ _ _ _ (ap (imported c.args.conditions.now c.args.scope.now c.args.text.now) (sym (ap json_of c.in-Object.is ∙ json_of_object _))) c.import_at.ensures.answered

pub returns-in-Null-clause-answered : goal.returns-in-Null-clause-answered
returns-in-Null-clause-answered g c =
    asking_as _ _ _ _ _ (ap (imported c.args.conditions.now c.args.scope.now c.args.text.now) (sym (ap json_of c.in-Null.is ∙ json_of_null))) (refused_now _ ImportNotDefined)

pub returns-in-Bool-clause-answered : goal.returns-in-Bool-clause-answered
returns-in-Bool-clause-answered g c =
    asking_as _ _ _ _ _ (ap (imported c.args.conditions.now c.args.scope.now c.args.text.now) (sym (ap json_of c.in-Bool.is ∙ json_of_bool _))) (refused_now _ ImportNotDefined)

pub returns-in-Number-clause-answered : goal.returns-in-Number-clause-answered
returns-in-Number-clause-answered g c =
    asking_as _ _ _ _ _ (ap (imported c.args.conditions.now c.args.scope.now c.args.text.now) (sym (ap json_of c.in-Number.is ∙ json_of_number _))) (refused_now _ ImportNotDefined)

pub returns-in-Text-clause-answered : goal.returns-in-Text-clause-answered
returns-in-Text-clause-answered g c =
    asking_as _ _ _ _ _ (ap (imported c.args.conditions.now c.args.scope.now c.args.text.now) (sym (ap json_of c.in-Text.is ∙ json_of_text _))) (refused_now _ ImportNotDefined)

pub returns-in-List-clause-answered : goal.returns-in-List-clause-answered
returns-in-List-clause-answered g c =
    asking_as _ _ _ _ _ (ap (imported c.args.conditions.now c.args.scope.now c.args.text.now) (sym (ap json_of c.in-List.is ∙ json_of_list _))) (refused_now _ ImportNotDefined)
