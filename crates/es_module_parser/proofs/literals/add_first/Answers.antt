use Rattle.std.proofs.Common.{rules, sym, ◌∙◌}
use Rattle.std.specs.String.{string_bytes}
use Rattle.es_module_parser.proofs.LiteralLemmas.{first_added}
use Rattle.es_module_parser.proofs.literals.add_first.Goals as goal

pub returns-in_ok-push-in-Some-clause-value : goal.returns-in_ok-push-in-Some-clause-value
returns-in_ok-push-in-Some-clause-value c = first_added (string_bytes c.args.text.now) (string_bytes c.push.new.self) c.args.code c.in-Some.character (sym c.is_high_surrogate.ensures ∙ c.if-is_high_surrogate.false) (search rules) (search rules) c.in_ok-push-in-Some.ensures.bytes
