use Rattle.std.proofs.Common.{sym, ◌∙◌}
use Rattle.node_resolve.proofs.MemberLemmas.{comes_to_same}
use Rattle.ordered_json.proofs.IsJsonLemmas.{json_of_null}
use Rattle.node_resolve.proofs.package_exports_resolve.dot_export.Goals as goal

pub returns-in-None : goal.returns-in-None
returns-in-None c =
    c.export_target.ensures _ (comes_to_same _ _ _ _ (json_of_null ∙ sym (rw c.in-None.is at c.dot_of.ensures)))

pub returns-in-Some : goal.returns-in-Some
returns-in-Some c = c.export_target-in-Some.ensures _ (rw c.in-Some.is at c.dot_of.ensures)
