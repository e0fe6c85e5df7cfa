use Rattle.std.proofs.Common.{◌∙◌, ap, ℕ, List}
use Rattle.std.specs.List.{list_any}
use Rattle.ordered_json.specs.Lists.{pairs_of}
use Rattle.ordered_json.specs.declared.value.Value.{Value}
use Rattle.node_spec.specs.PackageExportsResolve.{is_dotted}
use Rattle.package_record.proofs.NameLemmas.{any_key}
use Rattle.package_record.proofs.subpaths.has_dotted.Goals as goal

pub returns : goal.returns
returns c =
    c.any_dotted.ensures ∙ (ap (list_any (λ (member : List ℕ × Value). is_dotted member.0)) c.as_slice.ensures
    ∙ any_key is_dotted (pairs_of c.args.members.now))
