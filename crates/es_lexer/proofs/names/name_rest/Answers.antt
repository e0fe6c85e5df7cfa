use Rattle.std.proofs.Common.{sym, ◌∙◌}
use Rattle.es_lexer.proofs.NameBytes.{nothing_passed}
use Rattle.es_lexer.proofs.names.name_rest.Goals as goal

pub returns-then-name_size-eq0 : goal.returns-then-name_size-eq0
returns-then-name_size-eq0 c = sym (c.loop-more.invariant ∙ nothing_passed (sym c.name_size.ensures ∙ c.if-name_size-eq0.true))
