use Rattle.std.proofs.Common.{◌==◌, Some, sym, ap, ◌∙◌}
use Rattle.std.specs.List.{list_any}
use Rattle.module_spec.specs.StringValues as StringValues
use Rattle.es_module_parser.specs.Literals.{inside_value}
use Rattle.es_module_parser.proofs.LiteralLemmas.{plain_value}
use Rattle.es_module_parser.proofs.literals.string_value.Goals as goal

pub returns-in_ok-of : goal.returns-in_ok-of
unfolding StringValues.string_value
returns-in_ok-of c = ap (λ x. Some x) c.in_ok-of.ensures ∙ (sym (plain_value c.between_quotes-inside.result.now c.between_quotes-inside.utf8 (sym (ap (λ bs. list_any (λ y. y == 92) bs) c.as_bytes.ensures.value) ∙ (sym c.contains.ensures.value ∙ c.if-contains.false))) ∙ ap inside_value c.between_quotes-inside.ensures)
