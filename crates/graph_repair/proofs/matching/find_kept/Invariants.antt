use Rattle.std.proofs.Common.{◌≤◌, length, drop, reverse}
use Rattle.graph_repair.specs.Finding.{IsFound}
use Rattle.graph_repair.proofs.matching.find_kept.Given as goal

-- the modules from this one on are found, or aren't there
abbrev pub invariant-loop-place : goal.invariant-loop-place
invariant-loop-place l = record {
  within : l.place ≤ length l.slots;
  found : IsFound l.shown l.own l.trace.graph (drop l.place l.slots) l.left.items (reverse l.keeps.items);
}

abbrev pub decreases-loop-place : goal.decreases-loop-place
decreases-loop-place l = l.place
