-- The places of a referrer: where in a map the mappings for it can stand.
--     places referrer      the referrer, the folders above it, and the top level, longest first
--     above text      the same without the text itself
--     place_above place      the next shorter place
--     is_folder text      the text is that of a URL and ends in `/`
--     IsPlace referrer place      the same as `places`, by cases
--     AreShrinking texts      each text is a shorter front of all that stand before it
use Rattle.std.specs.Prelude.{◌≡◌, ◌<◌, ℕ, zero, suc, Bool, ◌&&◌, true, List, [], ◌∷◌, ◌++◌, length, take}
use Rattle.std.specs.Prelude.{if◌then◌else◌, Contains, ⊤, Option, Some, None}
use Rattle.url_spec.specs.Parsing.{IsUrl, is_text, parse_alone}
use Rattle.url_spec.specs.Specifiers.{ends_in_slash}

-- own: a text that ends in `/` and parses to itself
abbrev pub is_folder : List ℕ → Bool
is_folder text = ends_in_slash text && is_text text (parse_alone text)

-- the folders among the fronts of at most n bytes, longest first
abbrev pub folders : List ℕ → ℕ → List (List ℕ)
folders text zero = []
folders text (suc n) = if is_folder (take (suc n) text) then take (suc n) text ∷ folders text n else folders text n

-- own: the places above a text, longest first: each shorter front of it that is a folder, and the top level, which is
-- the empty text
abbrev pub above : List ℕ → List (List ℕ)
above [] = []
above (b ∷ rest) = folders (b ∷ rest) (length rest) ++ [] ∷ []

-- own: the places of a referrer, longest first: itself, and those above it
abbrev pub places : List ℕ → List (List ℕ)
places referrer = referrer ∷ above referrer

-- the first of the places, which stand longest first; none where there are none
abbrev pub longest : List (List ℕ) → Option (List ℕ)
longest [] = None
longest (place ∷ shorter) = Some place

-- own: the longest of the places above a place; above the top level there is none
abbrev pub place_above : List ℕ → Option (List ℕ)
place_above place = longest (above place)

-- ---- the same by cases

-- the first bytes of a text, but not all of them
pub record IsShorterFront (text front : List ℕ) : Type 0 where
  pub size : ℕ
  pub shorter : size < length text
  pub is_front : front ≡ take size text

-- own: the text is that of a URL and ends in `/`
pub record IsFolder (text : List ℕ) : Type 0 where
  pub slash : ends_in_slash text ≡ true
  pub url : IsUrl text

-- own: the referrer, a shorter front of it that is a folder, or the top level
pub data IsPlace (referrer place : List ℕ) : Type 0 where
  is_referrer : place ≡ referrer → IsPlace referrer place
  is_above : IsShorterFront referrer place → IsFolder place → IsPlace referrer place
  is_top : place ≡ [] → IsPlace referrer place

-- each text is a shorter front of all that stand before it
abbrev pub AreShrinking : List (List ℕ) → Type 0
AreShrinking [] = ⊤
AreShrinking (text ∷ more) = ((front : List ℕ) → Contains more front → IsShorterFront text front) × AreShrinking more
