-- The index of a list of keys.
--     IsPart names base back place      the name at this place is the pattern with this base, and this trailer, told
--         from its last byte
--     IsKeyIndex names index      the keys without a star and the patterns among the names are those of the index
--     IsIndex names keys      so it is, where there is an index
use Rattle.std.specs.Prelude.{◌≡◌, ℕ, List, ◌∷◌, ◌++◌, reverse, slice_get, Some, IfSome, IsUtf8}
use Rattle.std.specs.List.{Contains}
use Rattle.node_spec.specs.PatternKeys.{HasNoStar}
use Rattle.exports_patterns.specs.declared.keys.KeyIndex.{KeyIndex}
use Rattle.exports_patterns.specs.declared.keys.Keys.{Keys}

-- the patterns with one base: what stands after the star, the last byte first, and the places
abbrev pub Group : Type 0
Group = List (List ℕ × ℕ)

pub record IsPart (names : List (List ℕ)) (base back : List ℕ) (place : ℕ) : Type 0 where
  pub stands : slice_get names place ≡ Some (base ++ 42 ∷ reverse back)
  pub before_star : HasNoStar base
  pub after_star : HasNoStar (reverse back)
  pub is_base : IsUtf8 base
  pub is_trailer : IsUtf8 (reverse back)

pub record IsIndexOf (names : List (List ℕ)) (exact : List (List ℕ × ℕ)) (patterns : List (List ℕ × Group)) : Type 0 where
  pub key_stands : (key : List ℕ) (place : ℕ) → Contains exact (key, place) → slice_get names place ≡ Some key
  pub key_has_no_star : (key : List ℕ) (place : ℕ) → Contains exact (key, place) → HasNoStar key
  pub key_listed :
      (key : List ℕ) (place : ℕ) → slice_get names place ≡ Some key → HasNoStar key → Contains exact (key, place)
  pub pattern_stands :
      (base : List ℕ) (group : Group) (back : List ℕ) (place : ℕ) → Contains patterns (base, group)
      → Contains group (back, place) → IsPart names base back place
  pub group_listed :
      (base back : List ℕ) (place : ℕ) → slice_get names place ≡ Some (base ++ 42 ∷ reverse back) → HasNoStar base
      → HasNoStar (reverse back) → (group : Group) × Contains patterns (base, group)
  pub pattern_listed :
      (base back : List ℕ) (place : ℕ) (group : Group) → slice_get names place ≡ Some (base ++ 42 ∷ reverse back)
      → HasNoStar base → HasNoStar (reverse back) → Contains patterns (base, group) → Contains group (back, place)

abbrev pub IsKeyIndex : List (List ℕ) → KeyIndex → Type 0
IsKeyIndex names index = IsIndexOf names index.exact index.patterns

abbrev pub IsIndex : List (List ℕ) → Keys → Type 0
IsIndex names keys = IfSome keys.index (IsKeyIndex names)
