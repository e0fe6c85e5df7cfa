use Rattle.std.proofs.Common.{◌∙◌, ap, ℕ, List}
use Rattle.std.specs.List.{list_all}
use Rattle.ordered_json.specs.Lists.{pairs_of}
use Rattle.ordered_json.specs.declared.value.Value.{Value}
use Rattle.node_spec.specs.PackageExportsResolve.{is_dotted}
use Rattle.package_record.proofs.NameLemmas.{all_keys}
use Rattle.package_record.proofs.subpaths.are_dotted.Goals as goal

pub returns : goal.returns
returns c =
    c.all_dotted.ensures ∙ (ap (list_all (λ (member : List ℕ × Value). is_dotted member.0)) c.as_slice.ensures
    ∙ all_keys is_dotted (pairs_of c.args.members.now))
