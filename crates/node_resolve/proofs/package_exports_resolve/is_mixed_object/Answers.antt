use Rattle.std.proofs.Common.{ap, sym, ◌∙◌}
use Rattle.ordered_json.specs.Lists.{pairs_of}
use Rattle.ordered_json.specs.Shown.{json_of, members_of}
use Rattle.ordered_json.proofs.ShownLemmas.{json_of_object}
use Rattle.node_spec.specs.PackageExportsResolve.{is_mixed_object}
use Rattle.node_resolve.proofs.MemberLemmas.{mixed_is}
use Rattle.node_resolve.proofs.package_exports_resolve.is_mixed_object.Goals as goal

pub returns-in-Object : goal.returns-in-Object
returns-in-Object c =
    let is = ap json_of c.in-Object.is ∙ json_of_object _ in
    let keys = c.requires.indexed _ is in
    c.is_mixed.ensures ∙ (mixed_is (members_of (pairs_of c.in-Object.field-0)) _ _ keys.has_dotted keys.are_dotted ∙ ap is_mixed_object (sym is))
