use Rattle.std.proofs.Common.{length, ◌-◌, ◌≤◌}
use Rattle.place_nodes.proofs.Growing.{IsGrowing}
use Rattle.place_nodes.proofs.nodes.add_places.Given as goal

abbrev pub invariant-loop-size : goal.invariant-loop-size
invariant-loop-size l = record {
  from : l.fn.from ≤ l.size;
  within : l.size ≤ length l.fn.referrer;
  growing : IsGrowing l.fn.nodes.items l.fn.referrer l.size l.nodes.items;
}

abbrev pub decreases-loop-size : goal.decreases-loop-size
decreases-loop-size l = length l.referrer - l.size
