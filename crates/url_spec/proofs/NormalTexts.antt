-- Texts that are normalized to themselves, whatever the base.
use Rattle.std.proofs.Common.{◌≡◌, ℕ, false, List, Some, None, ap, ◌∙◌}
use Rattle.std.specs.Prelude.{unwrap_or}
use Rattle.std.proofs.lemmas.Bool.{cond-false}
use Rattle.url_spec.proofs.OwnUrls.{own_urls}
use Rattle.url_spec.specs.Laws.{NormalTexts}
use Rattle.url_spec.specs.Parsing.{IsUrl, parse_alone, parse_against}
use Rattle.url_spec.specs.Specifiers.{is_relative, as_url, normalized}

-- what has a URL is normalized to it
pub normal_by : (base text url : List ℕ) → as_url base text ≡ Some url → normalized base text ≡ url
unfolding normalized
normal_by base text url e = ap (λ found. unwrap_or found text) e

pub normal_url : (base url : List ℕ) → IsUrl url → normalized base url ≡ url
normal_url base url is = normal_by base url url (own_urls.0 base url is)

pub normal_bare : (base text : List ℕ) → is_relative text ≡ false → parse_alone text ≡ None
    → normalized base text ≡ text
unfolding normalized as_url
normal_bare base text other no_url =
    ap (λ found. unwrap_or found text) (cond-false _ (parse_against base text) (parse_alone text) other ∙ no_url)

pub normal_texts : NormalTexts
normal_texts = (normal_url, normal_bare)
