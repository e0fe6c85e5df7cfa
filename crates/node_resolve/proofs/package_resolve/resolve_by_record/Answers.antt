use Rattle.std.proofs.Common.{None, Some, sym, ap, ◌∙◌}
use Rattle.package_lookup.specs.Responses.{itself}
use Rattle.package_lookup.proofs.Questions.{asking_as}
use Rattle.package_record.specs.Shown.{record_shown}
use Rattle.node_resolve.proofs.Answering.{now_comes}
use Rattle.node_resolve.proofs.RuleLemmas.{record_is, null_is}
use Rattle.node_resolve.proofs.package_resolve.resolve_by_record.Goals as goal

pub returns-then-not-is_null-clause-answered : goal.returns-then-not-is_null-clause-answered
returns-then-not-is_null-clause-answered g c =
    asking_as _ _ _ _ _ (sym (record_is c.args.conditions.now c.args.package_folder.now c.args.subpath.now (record_shown c.args.of_package.now) (sym c.is_null.ensures ∙ c.if-not-is_null.true)))
    (now_comes itself _ _ c.exported.result c.exported.ensures)

pub returns-in-None-clause-answered : goal.returns-in-None-clause-answered
returns-in-None-clause-answered g c =
    asking_as _ _ _ _ _ (sym (null_is c.args.conditions.now c.args.package_folder.now c.args.subpath.now (record_shown c.args.of_package.now) None (sym c.is_null.ensures ∙ c.if-not-is_null.false) c.in-None.is))
    c.resolve_file.ensures.answered

pub returns-in-Some-clause-answered : goal.returns-in-Some-clause-answered
returns-in-Some-clause-answered g c =
    asking_as _ _ _ _ _ (sym (null_is c.args.conditions.now c.args.package_folder.now c.args.subpath.now (record_shown c.args.of_package.now) (Some c.as_str.result.now) (sym c.is_null.ensures ∙ c.if-not-is_null.false)
    (c.in-Some.is ∙ ap Some (sym c.as_str.ensures)))) c.resolve_file-in-Some.ensures.answered
