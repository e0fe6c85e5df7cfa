-- The URL of a specifier, by whether it is relative.
use Rattle.std.proofs.Common.{◌≡◌, List, ℕ, Option, None, true, false, ap, ◌∙◌, sym}
use Rattle.std.specs.Prelude.{option_map}
use Rattle.std.proofs.lemmas.Bool.{cond-true, cond-false}
use Rattle.std.proofs.lemmas.Str.Pattern.{ends_text}
use Rattle.url_spec.proofs.OwnUrls.{relative_no_url}
use Rattle.url_spec.specs.Parsing.{parse_alone, parse_against}
use Rattle.url_spec.specs.Schemes.{scheme_of, url_scheme}
use Rattle.url_spec.specs.Specifiers.{is_relative, as_url}
use Rattle.web_url.specs.Asking.{scheme_named}
use Rattle.web_url.specs.declared.specifier.Scheme.TheVariants.{NotUrl}

pub relative_url : (base text : List ℕ) (found : Option (List ℕ)) → is_relative text ≡ true → found ≡ parse_against base text → found ≡ as_url base text
unfolding as_url
relative_url base text found relative e = e ∙ sym (cond-true _ _ _ relative)

pub other_url : (base text : List ℕ) (found : Option (List ℕ)) → is_relative text ≡ false → found ≡ parse_alone text → found ≡ as_url base text
unfolding as_url
other_url base text found other e = e ∙ sym (cond-false _ _ _ other)

pub ruleset asking = (relative_url, other_url, ends_text)

relative_scheme : (text : List ℕ) → is_relative text ≡ true → scheme_of text ≡ None
unfolding scheme_of
relative_scheme text relative = ap (option_map url_scheme) (relative_no_url text relative)

-- a relative specifier is no URL
pub relative_named : (text : List ℕ) → is_relative text ≡ true → NotUrl ≡ scheme_named (scheme_of text)
relative_named text relative = sym (ap scheme_named (relative_scheme text relative))

pub ruleset relatives = (relative_named)
