use Rattle.std.proofs.Common.{◌≡◌, length}
use Rattle.json_spec.specs.Grammar.{after_space}
use Rattle.ordered_json.proofs.scan.skip_space.Given as goal

abbrev pub invariant-loop-first : goal.invariant-loop-first
invariant-loop-first l = after_space l.rest ≡ after_space l.fn.bytes

abbrev pub decreases-loop-first : goal.decreases-loop-first
decreases-loop-first l = length l.rest
