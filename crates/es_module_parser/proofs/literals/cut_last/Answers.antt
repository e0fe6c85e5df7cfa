use Rattle.std.proofs.Common.{◌++◌, sym, ap, ◌∙◌}
use Rattle.std.proofs.lemmas.Str.{chars-nil}
use Rattle.std.proofs.lemmas.List.{nil_from_length}
use Rattle.std.specs.Str.{chars}
use Rattle.std.specs.Prelude.{encode_utf8}
use Rattle.es_module_parser.proofs.LiteralLemmas.{chars-before_last}
use Rattle.es_module_parser.proofs.literals.cut_last.Goals as goal

pub returns-in-Some : goal.returns-in-Some
returns-in-Some c =
    (c.in-Some.field-0, chars-before_last _ c.as_str.result.now c.in-Some.field-0 c.utf8.text c.as_str.utf8 (sym c.chars-characters.ensures.rest ∙ c.in-Some.ensures.steps ∙ ap (λ t. t ++ encode_utf8 c.in-Some.field-0) (sym c.as_str.ensures)))

pub returns-in-None : goal.returns-in-None
returns-in-None c = ap chars (sym c.chars-characters.ensures.rest ∙ nil_from_length _ c.in-None.ensures.steps.0) ∙ chars-nil
