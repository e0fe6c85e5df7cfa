-- What is left of targets under some conditions.
--     AreLeft conditions imports pairs made      of the value of each member this is left
--     AreLeftOf conditions imports value made      the same of the object that the value is
--     StandsIn value place key target      the value is an object with this member at the place
--     IsLeftOf imports value left      so it is under its conditions, and of the value itself
use Rattle.std.specs.Prelude.{◌≡◌, ℕ, Bool, List, [], ◌∷◌, Some, slice_get}
use Rattle.condition_match.specs.Reducing.{ComesAs}
use Rattle.ordered_json.specs.Lists.{pairs_of}
use Rattle.ordered_json.specs.Shown.{json_of}
use Rattle.ordered_json.specs.declared.value.Members.{Members}
use Rattle.ordered_json.specs.declared.value.Value as value
use Rattle.ordered_json.specs.declared.value.Value.{Value}
use Rattle.package_record.specs.declared.left.LeftTargets.{LeftTargets}

abbrev pub AreLeft : List (List ℕ) → Bool → List (List ℕ × Value) → List Value → Type 0
AreLeft conditions imports [] made = made ≡ []
AreLeft conditions imports (pair ∷ pairs) [] = ⊥
AreLeft conditions imports (pair ∷ pairs) (one ∷ made) =
    ComesAs conditions imports (json_of pair.1) (json_of one) × AreLeft conditions imports pairs made

abbrev pub AreLeftOf : List (List ℕ) → Bool → Value → List Value → Type 0
AreLeftOf conditions imports given made =
    (members : Members) → given ≡ value.Object members → AreLeft conditions imports (pairs_of members) made

-- the value is an object, in which this member stands at the place
pub record StandsIn (given : Value) (place : ℕ) (key : List ℕ) (target : Value) : Type 0 where
  pub members : Members
  pub object : given ≡ value.Object members
  pub stands : slice_get (pairs_of members) place ≡ Some (key, target)

pub record IsLeftOf (imports : Bool) (given : Value) (left : LeftTargets) : Type 0 where
  pub whole : ComesAs left.conditions imports (json_of given) (json_of left.whole)
  pub targets : AreLeftOf left.conditions imports given left.targets.items
