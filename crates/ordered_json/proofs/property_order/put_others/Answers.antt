use Rattle.std.proofs.Common.{rules, ◌≡◌, ◌∙◌, sym, ap, []}
use Rattle.std.proofs.lemmas.List.{nil_from_length}
use Rattle.json_spec.specs.PropertyOrder.{joined, other_members}
use Rattle.ordered_json.specs.Shown.{members_of}
use Rattle.ordered_json.specs.Lent.{lent}
use Rattle.json_spec.proofs.Settled.{joined_nothing}
use Rattle.ordered_json.proofs.property_order.put_others.Goals as goal

pub returns : goal.returns
returns c =
    let end : c.loop-pair.rest.now ≡ [] = nil_from_length _ (search (rules)) in
    sym (joined_nothing (lent c.loop-pair.ordered.items)) ∙ (sym (ap (λ ps. joined (lent c.loop-pair.ordered.items) (other_members (members_of ps))) end) ∙ c.loop-pair.invariant)
