use Rattle.std.proofs.Common.{ℕ, ◌≤◌}
use Rattle.std.specs.Map.{keys_of}
use Rattle.exports_patterns.specs.Fronts.{Covers}
use Rattle.exports_patterns.proofs.fronts.climb.Given as goal

abbrev pub invariant-loop-at : goal.invariant-loop-at
invariant-loop-at g l = record {
  within : l.at ≤ l.from;
  covers : (most : ℕ) → Covers (keys_of l.entries) l.text most l.from → Covers (keys_of l.entries) l.text most l.at;
}

abbrev pub decreases-loop-at : goal.decreases-loop-at
decreases-loop-at g l = l.at
