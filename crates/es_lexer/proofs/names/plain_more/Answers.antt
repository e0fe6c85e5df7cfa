use Rattle.std.proofs.Common.{sym, ◌∙◌}
use Rattle.es_lexer.proofs.NameBytes.{byte_passed}
use Rattle.es_lexer.proofs.names.plain_more.Goals as goal

pub returns-then-is_name_byte : goal.returns-then-is_name_byte
returns-then-is_name_byte c = byte_passed c.in-Some.ensures.cases.0 (sym c.is_name_byte.ensures ∙ c.if-is_name_byte.true)
