use Rattle.std.proofs.Common.{refl, sym, subst, ◌∙◌}
use Rattle.std.specs.Prelude.{IsUtf8}
use Rattle.std.proofs.lemmas.Bool.{true≢false}
use Rattle.std.proofs.lemmas.Slice.Eq.{bytes_eq-Decides}
use Rattle.web_url.proofs.NameLemmas.{none_served, spelled_served, served_spelled}
use Rattle.web_url.proofs.names.serves.Goals as goal

pub returns-then-spells_itself : goal.returns-then-spells_itself
returns-then-spells_itself c =
    let path = c.args.path.now in (
      λ _. spelled_served c.args.base.now c.args.url.now path path (c.spells_itself.ensures c.if-spells_itself.true) (subst IsUtf8 c.as_str-text.ensures.text c.as_str-text.utf8) c.as_str-text.ensures.is_path refl,
      λ _. refl,
    )

pub returns-in-None : goal.returns-in-None
returns-in-None c =
    let never = rw c.in-None.is at c.in_ok-spelled_below.ensures in
    (λ e. absurd (true≢false (sym e)), λ served. absurd (none_served c.args.base.now c.args.url.now c.args.path.now never served))

pub returns-in-Some : goal.returns-in-Some
returns-in-Some c =
    let spells = rw c.in-Some.is at c.in_ok-spelled_below.ensures in
    let base = c.args.base.now in
    let url = c.args.url.now in
    let path = c.args.path.now in
    let bytes = c.in-Some.bytes.items in
    let decides = bytes_eq-Decides c.as_slice.result.now c.as_bytes.result.now in
    let left = c.as_slice.ensures.value in
    let right = c.as_bytes.ensures.value ∙ c.as_str-text.ensures.text in (
      λ yes. spelled_served base url path bytes spells (subst IsUtf8 c.as_str-text.ensures.text c.as_str-text.utf8) c.as_str-text.ensures.is_path (sym left ∙ decides.0 (sym c.eq.ensures ∙ yes) ∙ right),
      λ served. c.eq.ensures ∙ decides.1 (left ∙ served_spelled base url path bytes spells served ∙ sym right),
    )
