-- The text of a URL is its own URL, whatever the base.
use Rattle.std.proofs.Common.{◌≡◌, ℕ, false, ◌==◌, List, ◌∷◌, refl, true, subst, sym, ◌∙◌, ⊎_elim, [], Some, None}
use Rattle.std.proofs.lemmas.Bool.{eqb-true, cases_Bool, true≢false, cond-false, cond-true}
use Rattle.url_spec.proofs.KeptUrls.{alone_kept, against_kept}
use Rattle.url_spec.proofs.NoUrls.{no_url, empty_no_url}
use Rattle.url_spec.specs.Laws.{IsNoStart, OwnUrls}
use Rattle.url_spec.specs.Parsing.{IsUrl, parse_alone}
use Rattle.url_spec.specs.Specifiers.{is_relative, as_url}

other_start : (b : ℕ) (rest : List ℕ) → (47 == b) ≡ false → (46 == b) ≡ false → is_relative (b ∷ rest) ≡ false
other_start b rest no_slash no_dot = rw (no_slash, no_dot) refl

no_start : (b mark : ℕ) → IsNoStart mark → (mark == b) ≡ true → IsNoStart b
no_start b mark start same = subst IsNoStart (eqb-true mark b same) start

pub relative_start : (b : ℕ) (rest : List ℕ) → is_relative (b ∷ rest) ≡ true → IsNoStart b
relative_start b rest e =
    ⊎_elim
    (no_start b 47 (record { no_letter = refl; no_space = refl; no_tab = refl }))
    (λ no_slash. ⊎_elim
    (no_start b 46 (record { no_letter = refl; no_space = refl; no_tab = refl }))
    (λ no_dot. absurd (true≢false (sym e ∙ other_start b rest no_slash no_dot)))
    (cases_Bool (46 == b)))
    (cases_Bool (47 == b))

pub relative_no_url : (text : List ℕ) → is_relative text ≡ true → parse_alone text ≡ None
relative_no_url [] e = empty_no_url
relative_no_url (b ∷ rest) e = no_url b rest (relative_start b rest e)

url_not_relative : (url : List ℕ) → IsUrl url → is_relative url ≡ false
url_not_relative [] e = refl
url_not_relative (b ∷ rest) e =
    ⊎_elim
    (λ relative. absurd (cc (sym e, no_url b rest (relative_start b rest relative))))
    (λ other. other)
    (cases_Bool (is_relative (b ∷ rest)))

own_url : (base url : List ℕ) → IsUrl url → as_url base url ≡ Some url
unfolding as_url
own_url base url e = cond-false _ _ _ (url_not_relative url e) ∙ e

specifier_url : (base text url : List ℕ) → as_url base text ≡ Some url → IsUrl url
unfolding as_url
specifier_url base text url e =
    ⊎_elim
    (λ relative. against_kept base text url (sym (cond-true _ _ _ relative) ∙ e))
    (λ other. alone_kept text url (sym (cond-false _ _ _ other) ∙ e))
    (cases_Bool (is_relative text))

pub own_urls : OwnUrls
own_urls = (own_url, specifier_url)
