-- The patterns that fit a text, group by group.
--     NoneFits asked base group      no pattern of the group with this base fits the text
--     IsFitting asked base group found      the match stands for the one with the longest trailer that does
--     IsBestFitting asked patterns found      the match stands for the best pattern that fits, of all groups
--     IsTried asked patterns least      none that fits is in a group from this place on
use Rattle.std.specs.Prelude.{◌≡◌, ◌⊎◌, ◌≤◌, ◌-◌, ℕ, List, length, false, reverse}
use Rattle.std.specs.List.{Contains}
use Rattle.node_spec.specs.Laws.{PartStands}
use Rattle.node_spec.specs.PatternKeys.{StartsWith}
use Rattle.exports_patterns.specs.Fronts.{StandsAt}
use Rattle.exports_patterns.specs.Indexes.{Group}
use Rattle.exports_patterns.specs.declared.pattern_keys.Match.{Match}

abbrev pub NoneFits : List ℕ → List ℕ → Group → Type 0
NoneFits asked base group =
    (back : List ℕ) (place : ℕ) → Contains group (back, place) → PartStands asked base (reverse back) → ⊥

pub record IsFitting (asked base : List ℕ) (group : Group) (found : Match) : Type 0 where
  pub back : List ℕ
  pub at : ℕ
  pub listed : Contains group (back, at)
  pub fits : PartStands asked base (reverse back)
  pub is : found ≡ record { index = at; exact = false; from = length base; to = length asked - length back }
  pub longest :
      (other : List ℕ) (place : ℕ) → Contains group (other, place) → PartStands asked base (reverse other)
      → length other ≤ length back

abbrev pub IsTried : List ℕ → List (List ℕ × Group) → ℕ → Type 0
IsTried asked patterns least =
    (k : ℕ) (base : List ℕ) (group : Group) → least ≤ k → StandsAt patterns k (base, group) → StartsWith asked base
    → NoneFits asked base group

pub record IsBestFitting (asked : List ℕ) (patterns : List (List ℕ × Group)) (found : Match) : Type 0 where
  pub place : ℕ
  pub base : List ℕ
  pub group : Group
  pub stands : StandsAt patterns place (base, group)
  pub fitting : IsFitting asked base group found
  pub others :
      (k : ℕ) (other : List ℕ) (also : Group) → StandsAt patterns k (other, also) → StartsWith asked other
      → NoneFits asked other also ⊎ (length other ≤ length base)
