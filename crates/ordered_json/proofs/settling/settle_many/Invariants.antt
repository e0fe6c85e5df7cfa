use Rattle.std.proofs.Common.{◌≡◌, length, reverse}
use Rattle.json_spec.specs.Value.{settled, settled_onto}
use Rattle.ordered_json.specs.Pairs.{IsIndexed}
use Rattle.ordered_json.specs.Shown.{members_of}
use Rattle.ordered_json.proofs.settling.settle_many.Given as goal

abbrev pub invariant-loop-name : goal.invariant-loop-name
invariant-loop-name l = record {
  indexed : IsIndexed l.settling.places l.settling.kept.items;
  left : settled_onto (members_of l.settling.kept.items) (members_of (reverse l.rest.items)) ≡ settled (members_of l.fn.written.items);
}

abbrev pub decreases-loop-name : goal.decreases-loop-name
decreases-loop-name l = length l.rest.items
