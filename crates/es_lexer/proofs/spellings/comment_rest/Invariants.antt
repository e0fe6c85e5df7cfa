use Rattle.std.proofs.Common.{◌≡◌, length}
use Rattle.module_spec.specs.Spellings.{comment_rest}
use Rattle.es_lexer.proofs.spellings.comment_rest.Given as goal

abbrev pub invariant-loop-b : goal.invariant-loop-b
invariant-loop-b l = comment_rest l.bytes ≡ comment_rest l.rest

abbrev pub decreases-loop-b : goal.decreases-loop-b
decreases-loop-b l = length l.rest
