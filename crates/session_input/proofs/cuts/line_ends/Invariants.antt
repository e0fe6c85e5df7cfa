use Rattle.std.proofs.Common.{◌≡◌, ◌+◌, length}
use Rattle.session_spec.specs.SessionLines.{line_ends}
use Rattle.session_input.proofs.cuts.line_ends.Given as goal

abbrev pub invariant-loop-rest : goal.invariant-loop-rest
invariant-loop-rest l = line_ends l.rest + l.ends ≡ line_ends l.fn.bytes

abbrev pub decreases-loop-rest : goal.decreases-loop-rest
decreases-loop-rest l = length l.rest
