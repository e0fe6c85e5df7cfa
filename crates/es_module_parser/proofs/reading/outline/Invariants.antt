use Rattle.std.proofs.Common.{length}
use Rattle.es_module_parser.proofs.TokensRead.{Reading}
use Rattle.es_module_parser.proofs.reading.outline.Given as goal

abbrev pub invariant-read : goal.invariant-read
invariant-read a l = Reading l.text l.lexer l.progress l.asked l.after l.declares

abbrev pub decreases-read : goal.decreases-read
decreases-read a l = length l.lexer.1
