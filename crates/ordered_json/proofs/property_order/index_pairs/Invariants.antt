use Rattle.std.proofs.Common.{◌≡◌, ◌++◌}
use Rattle.json_spec.specs.PropertyOrder.{index_members}
use Rattle.ordered_json.specs.Shown.{members_of}
use Rattle.ordered_json.specs.Lent.{lent}
use Rattle.ordered_json.proofs.property_order.index_pairs.Given as goal

-- those that were taken, and those that are left
abbrev pub invariant-loop-pair : goal.invariant-loop-pair
invariant-loop-pair l = lent (l.indices.items ++ l.pair-iterator) ≡ index_members (members_of l.fn.pairs)
