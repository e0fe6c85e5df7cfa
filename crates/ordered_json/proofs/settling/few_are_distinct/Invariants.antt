use Rattle.std.proofs.Common.{length}
use Rattle.json_spec.specs.Value.{AreDistinct}
use Rattle.ordered_json.specs.Shown.{members_of}
use Rattle.ordered_json.proofs.settling.few_are_distinct.Given as goal

abbrev pub invariant-loop-pair : goal.invariant-loop-pair
invariant-loop-pair l = AreDistinct (members_of l.rest) → AreDistinct (members_of l.fn.pairs)

abbrev pub decreases-loop-pair : goal.decreases-loop-pair
decreases-loop-pair l = length l.rest
