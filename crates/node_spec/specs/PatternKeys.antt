-- The choice among the keys of an object of subpaths, as `exports` and `imports` have it (Node.js, ECMAScript modules:
-- PACKAGE_IMPORTS_EXPORTS_RESOLVE). Lengths are in bytes: of two fronts of one text, or of two of its ends, the longer
-- one has more bytes, as it has more code units. Whether a text that ends in `/` may be asked for isn't judged here.
--     Matches asked key found      the key matches the text that is asked for
--     Precedes key other      of two keys that match, this one goes first
--     GoesBefore found other      the same, told by how the two keys match
--     IsChoice keys asked key found      among these keys the one that matches and that no other one that matches
--         precedes
--     MatchesNone keys asked      none of these keys matches
--     StartsWith text front, EndsWith text end      the text starts with this; the text ends with this
use Rattle.std.specs.Prelude.{◌≢◌, ℕ, List, All, ◌≡◌, ◌∷◌, ◌++◌, ◌≤◌, ◌⊎◌, [], length, ◌-◌, ◌<◌, Contains, ⊤}

-- no `*` stands in the text
abbrev pub HasNoStar : List ℕ → Type 0
HasNoStar text = All (λ b. b ≢ 42) text

-- a pattern key contains only a single `*`: the pattern base stands before it, the pattern trailer after it
pub record IsPattern (key base trailer : List ℕ) : Type 0 where
  pub parts : key ≡ base ++ 42 ∷ trailer
  pub before_star : HasNoStar base
  pub after_star : HasNoStar trailer

abbrev pub StartsWith : List ℕ → List ℕ → Type 0
StartsWith text front = (rest : List ℕ) × (text ≡ front ++ rest)

abbrev pub EndsWith : List ℕ → List ℕ → Type 0
EndsWith text end = (front : List ℕ) × (text ≡ front ++ end)

-- PACKAGE_IMPORTS_EXPORTS_RESOLVE: the text starts with but is not equal to the pattern base, and the pattern trailer
-- has zero length, or the text ends with it and is at least as long as the key
pub record FitsPattern (asked key base trailer : List ℕ) : Type 0 where
  pub starts : StartsWith asked base
  pub is_longer : asked ≢ base
  pub ends : (trailer ≡ []) ⊎ (EndsWith asked trailer × (length key ≤ length asked))

-- how a key matches: by itself, or as a pattern, whose pattern match stands in the asked text from the first place to
-- before the second
pub data KeyMatch : Type 0 where
  Itself : KeyMatch
  PatternMatch : ℕ → ℕ → KeyMatch

-- PACKAGE_IMPORTS_EXPORTS_RESOLVE: "matchKey is a key of matchObj and does not contain `*`", or one of the expansion
-- keys
pub data Matches (asked key : List ℕ) : KeyMatch → Type 0 where
  by_itself : key ≡ asked → HasNoStar key → Matches asked key Itself
  by_pattern :
      (base trailer : List ℕ) → IsPattern key base trailer → FitsPattern asked key base trailer
      → Matches asked key (PatternMatch (length base) (length asked - length trailer))

-- a key without `*` goes before the patterns; of two patterns PATTERN_KEY_COMPARE puts the one with the longer base
-- first, and of two with bases of one length the longer key
pub data Precedes (key other : List ℕ) : Type 0 where
  without_star : (base trailer : List ℕ) → HasNoStar key → IsPattern other base trailer → Precedes key other
  by_longer_base :
      (base trailer other_base other_trailer : List ℕ) → IsPattern key base trailer
      → IsPattern other other_base other_trailer → length other_base < length base → Precedes key other
  by_longer_key :
      (base trailer other_base other_trailer : List ℕ) → IsPattern key base trailer
      → IsPattern other other_base other_trailer → length other_base ≡ length base → length other < length key
      → Precedes key other

-- PACKAGE_IMPORTS_EXPORTS_RESOLVE: the key that is taken, of a set of keys
pub record IsChoice (keys : List (List ℕ)) (asked key : List ℕ) (found : KeyMatch) : Type 0 where
  pub among : Contains keys key
  pub matches : Matches asked key found
  pub is_first :
      (other : List ℕ) (also : KeyMatch) → Contains keys other → Matches asked other also → Precedes other key → ⊥

abbrev pub MatchesNone : List (List ℕ) → List ℕ → Type 0
MatchesNone keys asked = (key : List ℕ) (found : KeyMatch) → Contains keys key → Matches asked key found → ⊥

-- own: the order of keys that match one text, told by how they match: the longer of two keys with one base has its
-- pattern match end earlier
abbrev pub GoesBefore : KeyMatch → KeyMatch → Type 0
GoesBefore Itself Itself = ⊥
GoesBefore Itself (PatternMatch from to) = ⊤
GoesBefore (PatternMatch from to) Itself = ⊥
GoesBefore (PatternMatch from to) (PatternMatch other_from other_to) =
    (other_from < from) ⊎ ((from ≡ other_from) × (to < other_to))
