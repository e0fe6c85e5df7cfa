use Rattle.std.specs.Prelude.{◌≡◌, string_bytes, IsUtf8}
use Rattle.std.proofs.Common.{ap, ◌∙◌, subst}
use Rattle.std.proofs.lemmas.Str.{IsUtf8-string_bytes}
use Rattle.ordered_json.proofs.strings.utf8_text.Goals as goal

pub returns-in-Ok : goal.returns-in-Ok
returns-in-Ok c =
    let e : string_bytes c.in-Ok.text ≡ c.args.bytes.items = ap (λ v. v.items) c.in-Ok.ensures.ok in
    (subst IsUtf8 e (IsUtf8-string_bytes c.in-Ok.text), c.in_ok-text-in-Ok.ensures ∙ e)
