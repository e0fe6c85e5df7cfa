use Rattle.std.proofs.Common.{◌+◌, ◌*◌, ◌≤◌, drop, length}
use Rattle.node_spec.specs.PackageTargets.{ResolvesMembers}
use Rattle.ordered_json.specs.Lists.{values_of, pairs_of}
use Rattle.ordered_json.specs.Shown.{json_of, items_of, members_of}
use Rattle.condition_match.specs.Reducing.{Follows, LeavesItems}
use Rattle.condition_match.proofs.Sizes.{size, size_items, size_members}
use Rattle.condition_match.proofs.reducing.+reduce.Given as goal

abbrev pub decreases-reduced_value : goal.decreases-reduced_value
decreases-reduced_value l = 3 * size (json_of l.target.now)

abbrev pub decreases-reduced_items : goal.decreases-reduced_items
decreases-reduced_items l = 3 * size_items (items_of (values_of l.items.now)) + 2

abbrev pub decreases-reduced_members : goal.decreases-reduced_members
decreases-reduced_members l = 3 * size_members (members_of (pairs_of l.members.now)) + 2

abbrev pub decreases-reduced_member : goal.decreases-reduced_member
decreases-reduced_member l = 3 * size (json_of l.value.now) + 1

abbrev pub invariant-reduced_items-loop-index : goal.invariant-reduced_items-loop-index
invariant-reduced_items-loop-index l = record {
  within : l.index ≤ length (values_of l.fn.items);
  leaves : LeavesItems l.fn.conditions l.fn.imports (items_of (drop l.index (values_of l.fn.items))) l.left;
}

abbrev pub decreases-reduced_items-loop-index : goal.decreases-reduced_items-loop-index
decreases-reduced_items-loop-index l = l.index

abbrev pub invariant-reduced_members-loop-index : goal.invariant-reduced_members-loop-index
invariant-reduced_members-loop-index l =
    Follows (λ rules. ResolvesMembers rules (members_of (drop l.index (pairs_of l.fn.members))))
    (λ rules. ResolvesMembers rules (members_of (pairs_of l.fn.members))) l.fn.conditions l.fn.imports
