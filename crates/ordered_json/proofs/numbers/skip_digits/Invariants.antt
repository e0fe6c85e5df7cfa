use Rattle.std.proofs.Common.{◌≡◌, length}
use Rattle.json_spec.specs.Numbers.{after_digits}
use Rattle.ordered_json.proofs.numbers.skip_digits.Given as goal

abbrev pub invariant-loop-first : goal.invariant-loop-first
invariant-loop-first l = after_digits l.rest ≡ after_digits l.fn.bytes

abbrev pub decreases-loop-first : goal.decreases-loop-first
decreases-loop-first l = length l.rest
