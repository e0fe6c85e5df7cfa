-- Short forms: how a map writes its addresses and scope keys beside its page.
--     folder_text base       the folder of a map base
--     shorter base url       `./` and what the URL has behind that folder
--     short base url         the short form of a URL
--     IsShort base url text      the same by cases
use Rattle.std.specs.Prelude.{◌≡◌, ◌&&◌, ◌==◌, ◌-◌, ◌++◌, not, ℕ, List, codes, take, drop, length, Some, if◌then◌else◌}
use Rattle.std.specs.List.{suffix_len}
use Rattle.url_spec.specs.Parsing.{parse_against, is_text}
use Rattle.url_spec.specs.Specifiers.{begins}

-- own: the longest front of the map base that ends in `/`
abbrev pub folder_text : List ℕ → List ℕ
folder_text base = take (length base - suffix_len (λ b. not (b == 47)) base) base

-- own: `./` and what the URL has behind the folder
abbrev pub shorter : List ℕ → List ℕ → List ℕ
shorter base url = codes "./" ++ drop (length (folder_text base)) url

-- own: that text, where the URL begins with the folder and the text, parsed against the map base, is the URL; else the
-- URL itself
unfoldable pub short : List ℕ → List ℕ → List ℕ
short base url =
    if begins url (folder_text base) && is_text url (parse_against base (shorter base url))
    then shorter base url else url

-- ---- the same by cases

-- own: the text is `./` and what the URL has behind the folder, and it is parsed to the URL; or there is no such text,
-- and it is the URL
pub data IsShort (base url text : List ℕ) : Type 0 where
  is_beside :
      (rest : List ℕ) → url ≡ folder_text base ++ rest → text ≡ codes "./" ++ rest → parse_against base text ≡ Some url
      → IsShort base url text
  is_whole :
      ((rest : List ℕ) → url ≡ folder_text base ++ rest → parse_against base (codes "./" ++ rest) ≡ Some url → ⊥)
      → text ≡ url → IsShort base url text
