use Rattle.std.proofs.Common.{length}
use Rattle.es_lexer.proofs.Lists.{Listing}
use Rattle.es_lexer.proofs.whole.tokens_of.Given as goal

abbrev pub invariant-read : goal.invariant-read
invariant-read l = Listing l.text l.lexer l.tokens

abbrev pub decreases-read : goal.decreases-read
decreases-read l = length l.lexer.1
