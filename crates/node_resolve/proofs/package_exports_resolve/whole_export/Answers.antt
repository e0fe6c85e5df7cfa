use Rattle.std.proofs.Common.{false}
use Rattle.ordered_json.specs.Shown.{json_of}
use Rattle.node_resolve.proofs.package_exports_resolve.whole_export.Goals as goal

pub returns : goal.returns
returns c = c.export_target.ensures (json_of c.args.exports.now.value) (c.as_target-target.ensures false c.requires)
