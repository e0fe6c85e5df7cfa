use Rattle.std.proofs.Common.{length}
use Rattle.grammar_spots.proofs.SpotsSoFar.{SoFar}
use Rattle.grammar_spots.proofs.reading.spots_of.Given as goal

abbrev pub invariant-read : goal.invariant-read
invariant-read l = SoFar l.text l.lexer l.spots l.end

abbrev pub decreases-read : goal.decreases-read
decreases-read l = length l.lexer.1
