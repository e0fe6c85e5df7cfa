use Rattle.es_module_parser.specs.Outlines.{as_outline}
use Rattle.es_grammar.proofs.Sayings.{says_all}
use Rattle.es_grammar.proofs.saying.strict.Goals as goal

pub returns : goal.returns
returns c =
    says_all c.args.text.now c.as_bytes.result.now c.in_ok-kept.kept c.as_slice-spots.result.now
    (as_outline c.args.outline.now) c.as_slice.result.now c.in_ok-told.asked.items c.in_ok-told.told c.in_ok-tokens.tokens
    c.answer.result c.in_ok-kept.ensures c.as_bytes.ensures.value c.as_slice-spots.ensures
    c.in_ok-tokens.ensures c.in_ok-told.ensures c.as_slice.ensures.value c.answer.ensures
