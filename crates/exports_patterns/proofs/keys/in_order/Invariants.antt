use Rattle.exports_patterns.specs.Gathering.{HasGrouped}
use Rattle.exports_patterns.proofs.keys.in_order.Given as goal

abbrev pub invariant-loop-base : goal.invariant-loop-base
invariant-loop-base l = record {
  can_next : (goal.iterator-loop-base).can_next l.base-iterator;
  is_finite : (goal.iterator-loop-base).is_finite l.base-iterator;
  grouped : HasGrouped l.fn.groups.entries l.base-iterator l.made;
}
