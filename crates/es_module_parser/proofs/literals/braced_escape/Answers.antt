use Rattle.std.proofs.Common.{◌∷◌, ◌∙◌, sym, ap, arith}
use Rattle.std.specs.Str.{chars}
use Rattle.es_module_parser.proofs.LiteralLemmas.{braced_part}
use Rattle.es_module_parser.proofs.literals.braced_escape.Goals as goal

pub returns-then-first-eq125 : goal.returns-then-first-eq125
returns-then-first-eq125 c =
    braced_part (chars c.args.text.now) c.in_ok-count.count c.in_ok-value.value (chars c.in_ok-first.behind.now) c.in_ok-count.ensures.0 (omega (arith, c.if-count-eq0.false)) c.in_ok-count.ensures.1 c.in_ok-value.ensures.0
    (sym c.in_ok-value.ensures.1 ∙ (c.in_ok-first.ensures ∙ ap (λ x. x ∷ chars c.in_ok-first.behind.now) c.if-first-eq125.true))
