use Rattle.es_lexer.proofs.Outcomes.{some_tokens}
use Rattle.es_lexer.proofs.some_tokens.Goals as goal

pub returns : goal.returns
returns c = some_tokens
