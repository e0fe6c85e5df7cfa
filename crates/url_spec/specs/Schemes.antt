-- The scheme of the URL of a text (URL Standard, URL representation).
--     url_scheme url      the scheme of the URL with this text
--     scheme_of text      the scheme of the URL of a text without a base
--     has_special_scheme url      the scheme of the URL with this text is a special one
use Rattle.std.specs.Prelude.{ℕ, List, [], Option, Some, None, option_map, Bool, false}
use Rattle.url.specs.Parts.{Parts, kind_of}
use Rattle.url.specs.Scheme.{is_special}
use Rattle.url_spec.specs.Parsing.{parts_of, parse_alone}

-- the scheme of the parts, empty where there are none
abbrev pub scheme_or_empty : Option Parts → List ℕ
scheme_or_empty None = []
scheme_or_empty (Some url) = url.scheme

-- the scheme of the URL with this text
unfoldable pub url_scheme : List ℕ → List ℕ
url_scheme url = scheme_or_empty (parts_of url)

-- the scheme of the URL of a text without a base; none where the text is no URL
unfoldable pub scheme_of : List ℕ → Option (List ℕ)
scheme_of text = option_map url_scheme (parse_alone text)

-- the parts have a scheme that is special: ftp, file, http, https, ws or wss (URL Standard, URL miscellaneous)
abbrev pub has_special : Option Parts → Bool
has_special None = false
has_special (Some url) = is_special (kind_of url)

-- the scheme of the URL with this text is special (URL Standard, URL miscellaneous)
unfoldable pub has_special_scheme : List ℕ → Bool
has_special_scheme text = has_special (parts_of text)
