-- The laws of needs, places and printed maps. Each is the contract of a function of this crate.
use Rattle.std.specs.Prelude.{◌↔◌, List, ◌∷◌, ◌++◌, Contains, ◌≡◌, ◌==◌, ℕ, false, Some, Ok, All, IsUtf8}
use Rattle.std.specs.List.{IsDistinct}
use Rattle.import_map_spec.specs.ParsedMap.{ParsedMap}
use Rattle.import_map_spec.specs.Parsing.{ParsesMap}
use Rattle.url_spec.specs.Parsing.{parse_against, IsUrl}
use Rattle.url_spec.specs.Specifiers.{as_url}
use Rattle.layout_spec.specs.Needs.{counted, is_need}
use Rattle.layout_spec.specs.Places.{places, above, IsPlace, AreShrinking}
use Rattle.layout_spec.specs.PrintedMap.{map_text, IsKept}
use Rattle.layout_spec.specs.ShortForms.{short, IsShort}
use Rattle.layout_spec.specs.declared.Need.{Need}

-- own law: to count each need once leaves out none and adds none
abbrev pub CountedKeeps : Type 0
CountedKeeps = (needs : List Need) (need : Need) → Contains needs need ↔ Contains (counted needs) need

-- own law: needs that are counted stand once each
abbrev pub CountedOnce : Type 0
CountedOnce = (needs : List Need) → IsDistinct is_need (counted needs)

-- own law: the places of a referrer are itself, the folders above it and the top level
abbrev pub PlacesByCases : Type 0
PlacesByCases = (referrer place : List ℕ) → Contains (places referrer) place ↔ IsPlace referrer place

-- own law: they stand longest first, each a shorter front of those before it, so that none stands twice
abbrev pub PlacesShrink : Type 0
PlacesShrink = (referrer : List ℕ) → AreShrinking (places referrer)

-- own law: behind each place of a referrer stand the places above it
abbrev pub PlacesNest : Type 0
PlacesNest =
    (referrer place : List ℕ) (longer shorter : List (List ℕ)) → places referrer ≡ longer ++ place ∷ shorter
    → shorter ≡ above place

-- own law: the short form of a URL is what its definition by cases says
abbrev pub ShortByCases : Type 0
ShortByCases = (base url : List ℕ) → IsShort base url (short base url)

-- own law: parsed against the map base, as a scope key and as an address, the short form of a URL is that URL
abbrev pub ShortFormsParse : Type 0
ShortFormsParse =
    (base url : List ℕ) → IsUrl base → IsUrl url
    → (parse_against base (short base url) ≡ Some url) × (as_url base (short base url) ≡ Some url)

-- own law: so no two URLs have one short form
abbrev pub ShortFormsDiffer : Type 0
ShortFormsDiffer =
    (base one other : List ℕ) → IsUrl base → IsUrl one → IsUrl other → short base one ≡ short base other → one ≡ other

-- own law: the text of a map is read as that map
abbrev pub TextsReadBack : Type 0
TextsReadBack = (base : List ℕ) (m : ParsedMap) → IsKept base m → ParsesMap base (map_text base m) (Ok m)

-- own law: the text of a map is UTF-8 and holds no `<`
abbrev pub TextsArePlain : Type 0
TextsArePlain =
    (base : List ℕ) (m : ParsedMap) → IsKept base m
    → IsUtf8 (map_text base m) × All (λ b. (b == 60) ≡ false) (map_text base m)
