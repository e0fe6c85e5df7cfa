-- What is gathered on the way to an index.
--     group_at groups base      the patterns with this base
--     IsGathered names exact groups      the same as for an index, of what isn't in order yet
--     PutsPattern base entry groups after      one more pattern with this base
--     HasGrouped gathered left made      the groups that aren't left are made, each with the patterns that it has
use Rattle.std.specs.Prelude.{◌≡◌, ◌≢◌, ◌⊎◌, ℕ, List, [], ◌∷◌, ◌++◌, reverse, slice_get, Some, Option, unwrap_or}
use Rattle.std.specs.List.{Contains}
use Rattle.std.specs.List.Sorted.{IsPermutation}
use Rattle.std.specs.Ordering.{nat_cmp}
use Rattle.std.specs.Cmp.Lexicographic.{slice_cmp}
use Rattle.std.specs.BTreeMap as tree
use Rattle.std.specs.BTreeMap.{BTreeMap}
use Rattle.node_spec.specs.PatternKeys.{HasNoStar}
use Rattle.exports_patterns.specs.Indexes.{Group, IsPart}
use Rattle.exports_patterns.specs.declared.keys.Gathered.{Gathered}

abbrev pub Groups : Type 0
Groups = BTreeMap (List ℕ) Group

abbrev pub group_at : Groups → List ℕ → Option Group
group_at groups base = tree.get (slice_cmp nat_cmp) groups base

pub record IsGathered (names : List (List ℕ)) (exact : List (List ℕ × ℕ)) (groups : Groups) : Type 0 where
  pub key_stands : (key : List ℕ) (place : ℕ) → Contains exact (key, place) → slice_get names place ≡ Some key
  pub key_has_no_star : (key : List ℕ) (place : ℕ) → Contains exact (key, place) → HasNoStar key
  pub key_listed :
      (key : List ℕ) (place : ℕ) → slice_get names place ≡ Some key → HasNoStar key → Contains exact (key, place)
  pub pattern_stands :
      (base : List ℕ) (group : Group) (back : List ℕ) (place : ℕ) → group_at groups base ≡ Some group
      → Contains group (back, place) → IsPart names base back place
  pub pattern_listed :
      (base back : List ℕ) (place : ℕ) → slice_get names place ≡ Some (base ++ 42 ∷ reverse back) → HasNoStar base
      → HasNoStar (reverse back) → (group : Group) × (group_at groups base ≡ Some group) × Contains group (back, place)

abbrev pub HasGathered : List (List ℕ) → Gathered → Type 0
HasGathered names gathered = IsGathered names gathered.exact gathered.groups

pub record PutsPattern (base : List ℕ) (entry : List ℕ × ℕ) (groups after : Groups) : Type 0 where
  pub here : group_at after base ≡ Some (unwrap_or (group_at groups base) [] ++ entry ∷ [])
  pub others : (other : List ℕ) → other ≢ base → group_at after other ≡ group_at groups other

pub record HasGrouped (gathered left made : List (List ℕ × Group)) : Type 0 where
  pub within : (base : List ℕ) (group : Group) → Contains left (base, group) → Contains gathered (base, group)
  pub stands :
      (base : List ℕ) (group : Group) → Contains made (base, group)
      → (before : Group) × Contains gathered (base, before) × IsPermutation before group
  pub listed :
      (base : List ℕ) (before : Group) → Contains gathered (base, before)
      → Contains left (base, before) ⊎ ((group : Group) × Contains made (base, group) × IsPermutation before group)
