use Rattle.std.proofs.Common.{◌≡◌, length}
use Rattle.std.specs.Map.{keys_of}
use Rattle.exports_patterns.specs.Fronts.{LinkedBelow}
use Rattle.exports_patterns.proofs.fronts.linked.Given as goal

abbrev pub invariant-loop-at : goal.invariant-loop-at
invariant-loop-at g l = record {
  linked : LinkedBelow (keys_of l.entries) l.links.items l.at;
  long : length l.links.items ≡ l.at;
}
