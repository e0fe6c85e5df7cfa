use Rattle.std.proofs.Common.{◌≤◌, length, drop, reverse}
use Rattle.graph_repair.specs.Plans.{AreAdded}
use Rattle.graph_repair.proofs.parts.added_of.Given as goal

-- the modules from this one on are added, where none is kept
abbrev pub invariant-loop-place : goal.invariant-loop-place
invariant-loop-place l = record {
  within : l.place ≤ length l.keeps;
  added : AreAdded l.trace.graph (drop l.place l.keeps) (drop l.place l.slots) (reverse l.added.items);
}

abbrev pub decreases-loop-place : goal.decreases-loop-place
decreases-loop-place l = l.place
