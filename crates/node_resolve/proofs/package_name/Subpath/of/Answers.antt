use Rattle.std.proofs.Common.{ap, ◌∙◌, ◌++◌, drop, codes}
use Rattle.node_resolve.proofs.NameLemmas.{is_subpath}
use Rattle.node_resolve.proofs.package_name.Subpath.of.Goals as goal

pub returns-clause-relative : goal.returns-clause-relative
returns-clause-relative c =
    is_subpath c.args.text.now c.in_ok-from_string.field-0
    (c.in_ok-from_string.ensures ∙ (c.in_ok-push_str.ensures.bytes ∙ (ap (λ front. front ++ c.range_from.result.now) c.in_ok-subpath.ensures.ok
    ∙ ap (λ rest. codes "." ++ rest) (c.range_from.ensures.value ∙ ap (λ n. drop n c.args.text.now) c.in-Some.ensures.1))))
