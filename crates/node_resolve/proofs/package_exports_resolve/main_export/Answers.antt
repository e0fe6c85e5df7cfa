use Rattle.std.proofs.Common.{ap, sym, ◌∙◌}
use Rattle.ordered_json.specs.Shown.{json_of}
use Rattle.ordered_json.proofs.ShownLemmas.{json_of_list, json_of_object, json_of_text}
use Rattle.package_lookup.specs.Responses.{itself}
use Rattle.node_resolve.proofs.Answering.{gives_as}
use Rattle.node_resolve.proofs.ValueLemmas.{main_text, main_list, main_dotted, main_plain}
use Rattle.node_resolve.proofs.package_exports_resolve.main_export.Goals as goal

pub returns-in-Text : goal.returns-in-Text
returns-in-Text c =
    gives_as itself _ _ c.whole_export.result (main_text c.args.conditions.now c.args.package_folder.now (json_of c.args.exports.now.value) _ (ap json_of c.in-Text.is ∙ json_of_text _)) c.whole_export.ensures

pub returns-in-List : goal.returns-in-List
returns-in-List c =
    gives_as itself _ _ c.whole_export-in-List.result (main_list c.args.conditions.now c.args.package_folder.now (json_of c.args.exports.now.value) _ (ap json_of c.in-List.is ∙ json_of_list _))
    c.whole_export-in-List.ensures

pub returns-then-exports : goal.returns-then-exports
returns-then-exports c =
    gives_as itself _ _ c.dot_export.result (main_dotted c.args.conditions.now c.args.package_folder.now (json_of c.args.exports.now.value) _ (ap json_of c.in-Object.is ∙ json_of_object _)
    (sym (c.requires.indexed _ (ap json_of c.in-Object.is ∙ json_of_object _)).has_dotted ∙ c.if-exports.true)) c.dot_export.ensures

pub returns-else-exports : goal.returns-else-exports
returns-else-exports c =
    gives_as itself _ _ c.whole_export-else-exports.result (main_plain c.args.conditions.now c.args.package_folder.now (json_of c.args.exports.now.value) _ (ap json_of c.in-Object.is ∙ json_of_object _)
    (sym (c.requires.indexed _ (ap json_of c.in-Object.is ∙ json_of_object _)).has_dotted ∙ c.if-exports.false)) c.whole_export-else-exports.ensures
