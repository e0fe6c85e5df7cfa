-- What a request asks for.
use Rattle.std.proofs.Common.{◌≡◌, true, false, List, ℕ, Some, None, Ok, Err, sym, ap, ◌∙◌}
use Rattle.std.specs.Prelude.{unwrap_or}
use Rattle.std.specs.Str.{IsUtf8, is_utf8}
use mathlib.Core.Logic.{inl, inr}
use Rattle.std.proofs.lemmas.Bool.{cases_Bool, cond-true, cond-false}
use Rattle.std.proofs.lemmas.Str.{is_utf8-from_IsUtf8}
use Rattle.url_spec.specs.Specifiers.{is_relative, ends_in_slash, as_url, normalized}
use Rattle.url_spec.proofs.NormalTexts.{normal_by}
use Rattle.trace_spec.specs.declared.AskCause.TheVariants.{Unaskable, TrailingSlash}
use Rattle.trace_spec.specs.Checks.{url_wanted, text_wanted, wanted_by}

text_asked : (specifier name : List ℕ) → IsUtf8 specifier → wanted_by specifier (Some name) ≡ text_wanted name specifier
text_asked specifier name utf8 = cond-true (is_utf8 specifier) (text_wanted name specifier) (Err Unaskable) (is_utf8-from_IsUtf8 specifier utf8)

url_asked : (specifier name : List ℕ) → IsUtf8 specifier → is_relative specifier ≡ true → wanted_by specifier (Some name) ≡ url_wanted name (as_url name specifier)
url_asked specifier name utf8 relative = text_asked specifier name utf8 ∙ cond-true (is_relative specifier) _ _ relative

itself_asked : (specifier name asked : List ℕ) → IsUtf8 specifier → is_relative specifier ≡ false → normalized name specifier ≡ asked → wanted_by specifier (Some name) ≡ Ok (record { referrer = name; asked = asked })
itself_asked specifier name asked utf8 other is =
    text_asked specifier name utf8 ∙ (cond-false (is_relative specifier) _ _ other ∙ ap (λ a. Ok (record { referrer = name; asked = a })) is)

-- a URL
pub asks_url : (specifier name url asked : List ℕ) → IsUtf8 specifier → (as_url name specifier ≡ Some url) × (is_relative specifier ≡ true → ends_in_slash url ≡ false) → asked ≡ url → wanted_by specifier (Some name) ≡ Ok (record { referrer = name; asked = asked })
asks_url specifier name url asked utf8 is same =
    elim (cases_Bool (is_relative specifier)) [
      | inl relative ↦
          url_asked specifier name utf8 relative
          ∙ (ap (url_wanted name) is.0 ∙ (cond-false (ends_in_slash url) (Err TrailingSlash) (Ok (record { referrer = name; asked = url })) (is.1 relative) ∙ ap (λ a. Ok (record { referrer = name; asked = a })) (sym same)))
      | inr other ↦ itself_asked specifier name asked utf8 other (normal_by name specifier url is.0 ∙ sym same)
    ]

normal_none : (base text : List ℕ) → as_url base text ≡ None → normalized base text ≡ text
unfolding normalized
normal_none base text e = ap (λ found. unwrap_or found text) e

-- itself
pub asks_bare : (specifier name asked : List ℕ) → IsUtf8 specifier → (as_url name specifier ≡ None) × (is_relative specifier ≡ false) → asked ≡ specifier → wanted_by specifier (Some name) ≡ Ok (record { referrer = name; asked = asked })
asks_bare specifier name asked utf8 is same = itself_asked specifier name asked utf8 is.1 (normal_none name specifier is.0 ∙ sym same)

-- a folder's URL
pub asks_folder : (specifier name url : List ℕ) → IsUtf8 specifier → is_relative specifier ≡ true → as_url name specifier ≡ Some url → ends_in_slash url ≡ true → wanted_by specifier (Some name) ≡ Err TrailingSlash
asks_folder specifier name url utf8 relative is slash =
    url_asked specifier name utf8 relative ∙ (ap (url_wanted name) is ∙ cond-true (ends_in_slash url) (Err TrailingSlash) (Ok (record { referrer = name; asked = url })) slash)
