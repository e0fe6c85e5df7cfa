use Rattle.std.proofs.Common.{◌≡◌, ◌≤◌}
use Rattle.std.specs.Prelude.{take}
use Rattle.session_spec.specs.SessionLines.{line_ends}
use Rattle.session_input.proofs.cuts.ends_within.Given as goal

abbrev pub invariant-loop-byte : goal.invariant-loop-byte
invariant-loop-byte l = (l.ends ≤ l.byte-index) × (l.ends ≡ line_ends (take l.byte-index l.piece))
