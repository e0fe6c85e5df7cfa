use Rattle.std.proofs.Common.{◌≡◌, length}
use Rattle.ordered_json.specs.Scanned.{after_plain}
use Rattle.ordered_json.proofs.strings.skip_plain.Given as goal

abbrev pub invariant-loop-first : goal.invariant-loop-first
invariant-loop-first l = after_plain l.rest ≡ after_plain l.fn.bytes

abbrev pub decreases-loop-first : goal.decreases-loop-first
decreases-loop-first l = length l.rest
