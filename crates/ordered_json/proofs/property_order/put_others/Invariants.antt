use Rattle.std.proofs.Common.{◌≡◌, length}
use Rattle.json_spec.specs.PropertyOrder.{joined, other_members}
use Rattle.ordered_json.specs.Shown.{members_of}
use Rattle.ordered_json.specs.Lent.{lent}
use Rattle.ordered_json.proofs.property_order.put_others.Given as goal

-- what is left, put behind what is there, gives the whole
abbrev pub invariant-loop-pair : goal.invariant-loop-pair
invariant-loop-pair l = joined (lent l.ordered.items) (other_members (members_of l.rest)) ≡ joined (lent l.fn.ordered.items) (other_members (members_of l.pairs))

abbrev pub decreases-loop-pair : goal.decreases-loop-pair
decreases-loop-pair l = length l.rest
