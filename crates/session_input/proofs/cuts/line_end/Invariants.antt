use Rattle.std.proofs.Common.{◌≡◌, None}
use Rattle.std.specs.Prelude.{take}
use Rattle.session_spec.specs.SessionLines.{cut_first}
use Rattle.session_input.proofs.cuts.line_end.Given as goal

abbrev pub invariant-loop-at : goal.invariant-loop-at
invariant-loop-at l = cut_first 10 (take l.at l.text) ≡ None
