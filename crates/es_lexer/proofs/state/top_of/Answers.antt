use Rattle.std.proofs.Common.{◌∙◌}
use Rattle.es_lexer.proofs.Tops.{last_is_top}
use Rattle.es_lexer.proofs.state.top_of.Goals as goal

pub returns : goal.returns
returns c = c.copied.ensures ∙ (c.last.ensures.value ∙ last_is_top c.args.stack.now)
