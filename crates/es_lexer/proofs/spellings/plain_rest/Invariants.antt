use Rattle.std.proofs.Common.{◌≡◌, ◌≤◌, length}
use Rattle.module_spec.specs.Spellings.{text_rest}
use Rattle.es_lexer.proofs.spellings.plain_rest.Given as goal

abbrev pub invariant-loop-more : goal.invariant-loop-more
invariant-loop-more l = (text_rest l.quote l.bytes ≡ text_rest l.quote l.rest) × (length l.rest ≤ length l.bytes)

abbrev pub decreases-loop-more : goal.decreases-loop-more
decreases-loop-more l = length l.rest
