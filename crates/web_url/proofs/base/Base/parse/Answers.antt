use Rattle.std.proofs.Common.{sym, ◌∙◌, subst}
use Rattle.url_spec.specs.Parsing.{text_of}
use Rattle.url_spec.specs.Bases.{IsBase}
use Rattle.web_url.proofs.UrlTexts.{text_value}
use Rattle.web_url.proofs.BaseLemmas.{base_ok, base_stays}
use Rattle.web_url.proofs.base.Base.parse.Goals as goal

pub invariant_of-result : goal.invariant_of-result
invariant_of-result c =
    let found = rw c.in-Ok-Some.field-0-is at c.in-Ok-Some.ensures.written in
    let moved = text_value c.in-Ok-Some.url c.in-Ok.text (c.in-Ok.ensures ∙ c.from.ensures) in
    let folder = sym c.is_web_folder.ensures ∙ c.if-not-is_web_folder.false in
    subst IsBase (sym moved) (base_stays c.args.text.now (text_of c.in-Ok-Some.url) (base_ok c.args.text.now c.in-Ok-Some.url found.0 found.1 folder))
