use Rattle.std.proofs.Common.{sym, ◌∙◌, refl}
use Rattle.module_spec.specs.Spellings.{template_size}
use Rattle.es_lexer.proofs.Passed.{passed_none, passed_more}
use Rattle.es_lexer.proofs.spellings.template_more.Goals as goal

pub returns-else-size-eq0 : goal.returns-else-size-eq0
returns-else-size-eq0 c = passed_more template_size c.args.bytes.now c.behind.result.now c.template_size-size.result refl c.template_size-size.ensures c.if-size-eq0.false c.behind.ensures

pub returns-then-size-eq0 : goal.returns-then-size-eq0
returns-then-size-eq0 c = passed_none template_size c.args.bytes.now (sym c.template_size-size.ensures ∙ c.if-size-eq0.true)
