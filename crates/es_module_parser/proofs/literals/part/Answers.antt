use Rattle.std.proofs.Common.{◌≤◌, ◌∷◌, ◌∙◌, length, sym, ap, subst}
use Rattle.std.specs.Str.{chars}
use Rattle.module_spec.specs.StringValues.{Element, escape, elements}
use Rattle.es_module_parser.proofs.LiteralLemmas.{escaped_elements, escape_elements, length-drop_le}
use Rattle.es_module_parser.proofs.literals.part.Goals as goal

pub returns-in-None : goal.returns-in-None
returns-in-None c =
    let cs = chars c.args.rest.now in
    (elements (escape cs).0 cs, escaped_elements c.args.first cs c.if-first-ne92.false ∙ ap (λ (e : Element). e ∷ elements (escape cs).0 cs) c.in-None.ensures)

pub returns-in-Some : goal.returns-in-Some
returns-in-Some c =
    let cs = chars c.args.rest.now in
    (escaped_elements c.args.first cs c.if-first-ne92.false ∙ escape_elements cs c.in-Some.added _ c.in-Some.ensures, subst (λ xs. length xs ≤ length cs) (sym c.in-Some.ensures.behind) (length-drop_le (escape cs).0 cs))
