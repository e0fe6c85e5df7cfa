use Rattle.std.proofs.Common.{ℕ, List, length}
use Rattle.module_spec.specs.Tokens.{Skips}
use Rattle.es_lexer.proofs.spellings.skip.Given as goal

abbrev pub invariant-loop-more : goal.invariant-loop-more
invariant-loop-more l = (end : List ℕ) → Skips l.rest end → Skips l.bytes end

abbrev pub decreases-loop-more : goal.decreases-loop-more
decreases-loop-more l = length l.rest
