use Rattle.std.proofs.Common.{◌≡◌, length}
use Rattle.module_spec.specs.Spellings.{line_rest}
use Rattle.es_lexer.proofs.spellings.line_rest.Given as goal

abbrev pub invariant-loop-more : goal.invariant-loop-more
invariant-loop-more l = line_rest l.bytes ≡ line_rest l.rest

abbrev pub decreases-loop-more : goal.decreases-loop-more
decreases-loop-more l = length l.rest
