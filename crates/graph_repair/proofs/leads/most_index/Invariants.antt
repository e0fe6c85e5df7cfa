use Rattle.std.proofs.Common.{ℕ, ◌<◌, ◌≤◌, length}
use Rattle.std.specs.Prelude.{All}
use Rattle.graph_repair.proofs.leads.most_index.Given as goal

-- what is above the rest, and no less than this, is above all
abbrev pub invariant-loop-slot : goal.invariant-loop-slot
invariant-loop-slot l = (bound : ℕ) → l.most ≤ bound → All (λ s. s.index < bound) l.rest → All (λ s. s.index < bound) l.slots

abbrev pub decreases-loop-slot : goal.decreases-loop-slot
decreases-loop-slot l = length l.rest
