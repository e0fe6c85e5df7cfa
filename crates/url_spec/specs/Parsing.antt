-- URLs by their texts: parsing with and without a base (URL Standard, URL parsing).
--     parse_alone text      the text of the URL of a text, without a base
--     parse_against base text      the text of its URL against a base, which is given by its text
--     IsUrl text      the text is that of a URL
--     parts_of url, text_of parts      the parts of the URL with this text, and the text of these parts
use Rattle.std.specs.Char.{is_ascii}
use Rattle.std.specs.List.{list_all}
use Rattle.std.specs.Prelude.{ℕ, List, Option, Some, None, Ok, Err, Bool, false, bytes_eq, ◌&&◌, if◌then◌else◌, ◌≡◌}
use Rattle.std.specs.Result.{result_ok}
use Rattle.url.specs.Parser.{Parsed, parse_url}
use Rattle.url.specs.Parts.{Parts, serialize}

-- the text of a URL (URL Standard, URL serializing)
unfoldable pub text_of : Parts → List ℕ
text_of url = serialize url

-- the text of what was parsed, and none on failure
abbrev pub url_text : Parsed Parts → Option (List ℕ)
url_text (Ok url) = Some (text_of url)
url_text (Err fault) = None

-- these are the bytes of a text that is there
abbrev pub is_text : List ℕ → Option (List ℕ) → Bool
is_text text None = false
is_text text (Some other) = bytes_eq text other

-- the text is ASCII and parses back to itself
abbrev pub is_own_text : List ℕ → Bool
is_own_text text = list_all is_ascii text && is_text text (url_text (parse_url None text))

-- own: a URL counts where its text is ASCII and parses back to that text, as the text of each URL does
abbrev pub kept : Option (List ℕ) → Option (List ℕ)
kept None = None
kept (Some text) = if is_own_text text then Some text else None

-- the URL of a text without a base (URL Standard, URL parsing)
unfoldable pub parse_alone : List ℕ → Option (List ℕ)
parse_alone text = kept (url_text (parse_url None text))

-- the same against a base that was parsed
abbrev pub parse_onto : Parsed Parts → List ℕ → Option (List ℕ)
parse_onto (Ok base) text = kept (url_text (parse_url (Some base) text))
parse_onto (Err fault) text = None

-- the URL of a text against a base, which is given by its text; none where that is no URL
unfoldable pub parse_against : List ℕ → List ℕ → Option (List ℕ)
parse_against base text = parse_onto (parse_url None base) text

-- the text is that of a URL: it parses to itself
abbrev pub IsUrl : List ℕ → Type 0
IsUrl text = parse_alone text ≡ Some text

-- the parts of the URL with this text (URL Standard, URL representation)
abbrev pub parts_of : List ℕ → Option Parts
parts_of text = result_ok (parse_url None text)
