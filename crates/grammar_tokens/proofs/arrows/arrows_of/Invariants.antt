use Rattle.std.proofs.Common.{length}
use Rattle.grammar_tokens.proofs.Passing.{Passed}
use Rattle.grammar_tokens.proofs.arrows.arrows_of.Given as goal

abbrev pub invariant-back : goal.invariant-back
invariant-back l = Passed l.text l.spots l.rest l.signs.items l.sign l.arrows.items

abbrev pub decreases-back : goal.decreases-back
decreases-back l = length l.rest
