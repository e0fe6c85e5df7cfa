use Rattle.std.proofs.Common.{◌≡◌, string_bytes, sym, ap, ◌∙◌, subst}
use Rattle.web_url.specs.Kept.{IsKept, IsNamed, kept_text}
use Rattle.web_url.specs.Written.{IsTextOf}
use Rattle.web_url.proofs.FileLemmas.{named_text}
use Rattle.web_url.proofs.file.FileUrl.as_str.Goals as goal

pub returns-in-Named : goal.returns-in-Named
returns-in-Named c =
    let text = string_bytes c.in-Named.text in
    let is : IsNamed text c.in-Named.path c.in-Named.folder = subst IsKept c.in-Named.is c.self.invariant in
    let same : text ≡ c.args.self.now = sym (ap kept_text c.in-Named.is) ∙ c.self.view_is in
    subst (λ now. IsTextOf now c.as_str.result.now) same (named_text text c.in-Named.path c.as_str.result.now c.in-Named.folder is c.as_str.ensures.value)
