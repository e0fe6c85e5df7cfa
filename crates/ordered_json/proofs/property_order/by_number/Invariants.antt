use Rattle.std.proofs.Common.{◌≡◌, ◌+◌, ◌-◌, ◌++◌, ℕ, List, length}
use Rattle.ordered_json.specs.declared.value.Value.{Value}
use Rattle.ordered_json.specs.Lent.{HasIndices}
use Rattle.ordered_json.proofs.property_order.by_number.Given as goal

-- the pairs that were put stand behind those that are left
abbrev pub invariant-loop-pair : goal.invariant-loop-pair
invariant-loop-pair l = (seen : List (List ℕ × Value)) × (l.pairs ≡ l.rest ++ seen) × HasIndices (length l.pairs - length l.rest + 1) seen l.numbered

abbrev pub decreases-loop-pair : goal.decreases-loop-pair
decreases-loop-pair l = length l.rest
