use Rattle.std.proofs.Common.{Err, ap, sym, ◌∙◌}
use Rattle.ordered_json.specs.Shown.{json_of}
use Rattle.ordered_json.proofs.ShownLemmas.{json_of_object}
use Rattle.node_spec.specs.declared.Cause.TheVariants.{NotExported}
use Rattle.package_lookup.specs.Responses.{itself}
use Rattle.node_resolve.specs.declared.fault.NodeFault.TheVariants.{Refused}
use Rattle.node_resolve.proofs.Answering.{gives_as}
use Rattle.node_resolve.proofs.TargetLemmas.{given_now}
use Rattle.node_resolve.proofs.ValueLemmas.{subpath_by_key, subpath_none}
use Rattle.node_resolve.proofs.package_exports_resolve.subpath_export.Goals as goal

pub returns-then-exports : goal.returns-then-exports
returns-then-exports c =
    gives_as itself _ _ c.export_at.result (subpath_by_key c.args.conditions.now c.args.package_folder.now (json_of c.args.exports.now.value) c.args.subpath.now _ (ap json_of c.in-Object.is ∙ json_of_object _)
    (sym (c.requires.indexed _ (ap json_of c.in-Object.is ∙ json_of_object _)).are_dotted ∙ c.if-exports.true)) c.export_at.ensures

pub returns-else-exports : goal.returns-else-exports
returns-else-exports c =
    gives_as itself _ _ (Err (Refused NotExported)) (subpath_none c.args.conditions.now c.args.package_folder.now (json_of c.args.exports.now.value) c.args.subpath.now _ (ap json_of c.in-Object.is ∙ json_of_object _)
    (sym (c.requires.indexed _ (ap json_of c.in-Object.is ∙ json_of_object _)).are_dotted ∙ c.if-exports.false)) (given_now _)
