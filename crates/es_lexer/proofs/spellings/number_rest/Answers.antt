use Rattle.std.proofs.Common.{sym, ◌∙◌}
use Rattle.es_lexer.proofs.spellings.number_rest.Goals as goal

pub returns : goal.returns
returns c = sym (rw (← c.has_base_letter-exponent.ensures) (c.loop-more.invariant ∙ c.in_default.ensures))
