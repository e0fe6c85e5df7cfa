use Rattle.std.proofs.Common.{◌≡◌, ℕ, ◌<◌, false, get_or}
use Rattle.condition_match.specs.Segments.{is_separator}
use Rattle.condition_match.proofs.segments.cut_segment.Given as goal

abbrev pub invariant-loop-at : goal.invariant-loop-at
invariant-loop-at l = (k : ℕ) → k < l.at → is_separator (get_or l.text k 0) ≡ false
