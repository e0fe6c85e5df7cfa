use Rattle.std.proofs.Common.{◌≡◌, ◌++◌, length, reverse}
use Rattle.ordered_json.specs.Lists.{values_of}
use Rattle.condition_match.proofs.reducing.turned.Given as goal

abbrev pub invariant-loop-value : goal.invariant-loop-value
invariant-loop-value l = values_of l.items ++ reverse l.rest.items ≡ reverse l.fn.back.items

abbrev pub decreases-loop-value : goal.decreases-loop-value
decreases-loop-value l = length l.rest.items
