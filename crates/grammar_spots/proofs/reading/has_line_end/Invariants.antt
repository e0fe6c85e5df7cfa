use Rattle.std.proofs.Common.{◌≡◌, length}
use Rattle.grammar_spec.specs.Sights.{has_line_end}
use Rattle.grammar_spots.proofs.reading.has_line_end.Given as goal

abbrev pub invariant-look : goal.invariant-look
invariant-look l = has_line_end l.fn.bytes ≡ has_line_end l.rest

abbrev pub decreases-look : goal.decreases-look
decreases-look l = length l.rest
