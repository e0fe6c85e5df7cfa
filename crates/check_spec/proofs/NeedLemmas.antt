-- What a need comes to is what its specifiers do.
use Rattle.std.proofs.Common.{◌≡◌, ℕ, List, Option, Some, None, refl, sym, ap, ◌∙◌, ⊎_elim}
use Rattle.std.specs.FinMap.{get}
use Rattle.std.specs.Prelude.{unwrap_or}
use Rattle.std.proofs.lemmas.Bool.{cases_Bool, cond-false}
use Rattle.url_spec.proofs.OwnUrls.{own_urls, relative_no_url}
use Rattle.url_spec.specs.Parsing.{parse_alone}
use Rattle.url_spec.specs.Specifiers.{is_relative, as_url, normalized}
use Rattle.import_map_spec.specs.LookUps.{resolve_in, resolve_normalized, scope_addresses}
use Rattle.check_spec.specs.Laws.{SpecifiersAgree}

no_url_alone : (base text : List ℕ) → as_url base text ≡ None → parse_alone text ≡ None
unfolding as_url
no_url_alone base text e =
    ⊎_elim
    (relative_no_url text)
    (λ other. sym (cond-false _ _ _ other) ∙ e)
    (cases_Bool (is_relative text))

-- the URL of a specifier is that of its normalized form
alone : (base text : List ℕ) (url : Option (List ℕ)) → as_url base text ≡ url → parse_alone (unwrap_or url text) ≡ url
alone base text None e = no_url_alone base text e
alone base text (Some url) e = own_urls.1 base text url e

pub specifiers_agree : SpecifiersAgree
unfolding resolve_in normalized
specifiers_agree m need specifier e =
    let url = as_url need.referrer specifier in
    let same : url ≡ parse_alone need.asked = sym (alone need.referrer specifier url refl) ∙ ap parse_alone e in
    λ i. resolve_normalized (get m.imports) (scope_addresses m.scopes) need.referrer (same i) (e i)
