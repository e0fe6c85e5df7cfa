use Rattle.std.proofs.Common.{◌≡◌, ◌∷◌, sym, ap, ◌∙◌}
use Rattle.std.proofs.lemmas.Slice.Eq.{bytes_eq-Decides}
use Rattle.web_url.proofs.PlainLemmas.{plain, no_slash_escape, itself}
use Rattle.web_url.proofs.names.spells_itself.Goals as goal

pub returns-then-not-holds_percent : goal.returns-then-not-holds_percent
returns-then-not-holds_percent c = λ held.
    let rest = c.in-Some.rest.now in
    let bare = plain rest (sym c.holds_percent.ensures ∙ c.if-not-holds_percent.true) in
    let same : rest ≡ c.below_root.result.now = (bytes_eq-Decides rest c.below_root.result.now).0 (sym c.eq.ensures ∙ held) in record {
      rest = rest;
      below = rw c.in-Some.is at c.below.ensures;
      no_slash = no_slash_escape rest bare;
      spelled = c.below_root.ensures ∙ (ap (λ xs. 47 ∷ xs) (sym same) ∙ sym (itself rest bare));
    }
