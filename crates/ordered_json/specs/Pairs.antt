-- The pairs of an object that is read, and their names.
--     PutsPair name value before after      the pairs are the members before, with that one put
--     place_of name pairs      where the first pair stands that has the name
--     IsIndexed places pairs      the map has the place of each name
--     IsNowhere name pairs      no pair has the name
--     IsAt name pairs place      the first pair that has the name stands there
--     IsReplaced place value before after      the pair at the place has the value, and the others are as they were
use Rattle.std.specs.Prelude.{◌≡◌, ℕ, suc, List, [], ◌∷◌, ◌++◌, ⊤, false, length, bytes_eq}
use Rattle.std.specs.Prelude.{if◌then◌else◌, Option, Some, None, option_map}
use Rattle.std.specs.BTreeMap.{BTreeMap, get}
use Rattle.std.specs.Cmp.Lexicographic.{slice_cmp}
use Rattle.std.specs.Ordering.{nat_cmp}
use Rattle.json_spec.specs.Value.{put}
use Rattle.ordered_json.specs.declared.value.Value.{Value}
use Rattle.ordered_json.specs.Shown.{json_of, members_of}

abbrev pub place_of : List ℕ → List (List ℕ × Value) → Option ℕ
place_of name [] = None
place_of name (pair ∷ pairs) = if bytes_eq name pair.0 then Some 0 else option_map suc (place_of name pairs)

abbrev pub PutsPair : List ℕ → Value → List (List ℕ × Value) → List (List ℕ × Value) → Type 0
PutsPair name value before after = members_of after ≡ put name (json_of value) (members_of before)

abbrev pub IsIndexed : BTreeMap (List ℕ) ℕ → List (List ℕ × Value) → Type 0
IsIndexed places pairs = (name : List ℕ) → get (slice_cmp nat_cmp) places name ≡ place_of name pairs

abbrev pub IsNowhere : List ℕ → List (List ℕ × Value) → Type 0
IsNowhere name [] = ⊤
IsNowhere name (pair ∷ pairs) = (bytes_eq name pair.0 ≡ false) × IsNowhere name pairs

pub record IsAt (name : List ℕ) (pairs : List (List ℕ × Value)) (place : ℕ) : Type 0 where
  pub before : List (List ℕ × Value)
  pub old : Value
  pub after : List (List ℕ × Value)
  pub split : pairs ≡ before ++ (name, old) ∷ after
  pub place_is : place ≡ length before
  pub new : IsNowhere name before

pub record IsReplaced (place : ℕ) (value : Value) (pairs replaced : List (List ℕ × Value)) : Type 0 where
  pub all :
      (before after : List (List ℕ × Value)) (name : List ℕ) (old : Value) → pairs ≡ before ++ (name, old) ∷ after
      → place ≡ length before → replaced ≡ before ++ (name, value) ∷ after
