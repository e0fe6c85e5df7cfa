use Rattle.std.proofs.Common.{◌≤◌, ◌+◌}
use Rattle.generator_core.proofs.Strictnesses.{AreLinedUpTo}
use Rattle.generator_core.proofs.strictness.push_strict.Given as goal

-- the lines of the modules before the place are there, for a step each
abbrev pub invariant-loop-place : goal.invariant-loop-place
invariant-loop-place g l = AreLinedUpTo l.fn.trace.gathered l.place l.fn.lines l.lines × (l.steps ≤ l.fn.steps + l.place)
