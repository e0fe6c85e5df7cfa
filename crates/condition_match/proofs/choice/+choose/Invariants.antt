use Rattle.std.proofs.Common.{◌+◌, ◌*◌, drop}
use Rattle.node_spec.specs.PackageTargets.{ResolvesItems, ResolvesMembers, last_of}
use Rattle.ordered_json.specs.Lists.{values_of, pairs_of}
use Rattle.ordered_json.specs.Shown.{json_of, items_of, members_of}
use Rattle.condition_match.specs.Choosing.{rules_of}
use Rattle.condition_match.proofs.Sizes.{size, size_items, size_members}
use Rattle.condition_match.proofs.AskLemmas.{Completes}
use Rattle.condition_match.proofs.choice.+choose.Given as goal

abbrev pub decreases-choose_value : goal.decreases-choose_value
decreases-choose_value g l = 3 * size (json_of l.target.now)

abbrev pub decreases-choose_item : goal.decreases-choose_item
decreases-choose_item g l = 3 * size_items (items_of (values_of l.items.now)) + 2

abbrev pub decreases-choose_member : goal.decreases-choose_member
decreases-choose_member g l = 3 * size_members (members_of (pairs_of l.members.now)) + 2

abbrev pub decreases-try_member : goal.decreases-try_member
decreases-try_member g l = 3 * size (json_of l.value.now) + 1

abbrev pub invariant-choose_item-loop-index : goal.invariant-choose_item-loop-index
invariant-choose_item-loop-index g l =
    Completes g.B.BareTarget.gives (ResolvesItems (rules_of l.fn.rules) (items_of (values_of l.fn.items))) (ResolvesItems (rules_of l.fn.rules) (items_of (drop l.index (values_of l.fn.items)))) (last_of l.last) l.fn.bare l.bare

abbrev pub invariant-choose_member-loop-index : goal.invariant-choose_member-loop-index
invariant-choose_member-loop-index g l =
    Completes g.B.BareTarget.gives (ResolvesMembers (rules_of l.fn.rules) (members_of (pairs_of l.fn.members))) (ResolvesMembers (rules_of l.fn.rules) (members_of (drop l.index (pairs_of l.fn.members)))) (λ out. out) l.fn.bare l.bare
