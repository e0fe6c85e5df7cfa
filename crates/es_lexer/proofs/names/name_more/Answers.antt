use Rattle.std.proofs.Common.{sym, ◌∙◌, refl}
use Rattle.module_spec.specs.Characters.{name_size}
use Rattle.es_lexer.proofs.Passed.{passed_none, passed_more}
use Rattle.es_lexer.proofs.names.name_more.Goals as goal

pub returns-then-size-eq0 : goal.returns-then-size-eq0
returns-then-size-eq0 c = passed_none (λ more. name_size more) c.args.bytes.now (sym c.name_size-size.ensures ∙ c.if-size-eq0.true)

pub returns-else-size-eq0 : goal.returns-else-size-eq0
unfolding name_size
returns-else-size-eq0 c = passed_more (λ more. name_size more) c.args.bytes.now c.behind.result.now c.name_size-size.result refl c.name_size-size.ensures c.if-size-eq0.false c.behind.ensures
