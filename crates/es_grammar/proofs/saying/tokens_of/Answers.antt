use Rattle.es_grammar.proofs.Sayings.{no_fault}
use Rattle.es_grammar.proofs.saying.tokens_of.Goals as goal

pub unreachable-requires : goal.unreachable-requires
unreachable-requires c =
    no_fault c.args.text.now c.requires.0 c.in-Err-Lexical.field-0-0 c.requires.1
    (c.in-Err-Lexical.ensures.fault c.in-Err-Lexical.field-0-0 c.in-Err-Lexical.field-0-is)
