use Rattle.std.proofs.Common.{false, arith}
use Rattle.es_lexer.proofs.NameBytes.{table_says}
use Rattle.es_lexer.proofs.names.is_name_byte.Goals as goal

pub returns : goal.returns
returns c = table_says c.args.b false (omega arith)
