-- A target without what its conditions decide.
--     shown made      the target that is left
--     IsPassed made      a list goes on behind it
--     IsReduced conditions imports target made      the target comes to what is left of it, whatever stands for `*`;
--         and what is left is undefined only where it says so
--     left_of left      the items that are left of a list
--     LeavesItems conditions imports items left      the items come to what those come to that are left
--     PutsItem made left after      what is left where one more item stands before it
--     IsWhole left made      what is left of the whole list
--     LeavesMember conditions imports key value made      what is left of a member: its value, where it is tried
use Rattle.std.specs.Prelude.{◌≡◌, ◌≢◌, ◌⊎◌, ℕ, Bool, true, false, List, [], ◌∷◌, Option, map, reverse}
use Rattle.json_spec.specs.Value.{Json, a_null, a_bool, a_list, an_object, Items, an_item, Members}
use Rattle.json_spec.specs.Value.{no_members, a_member}
use Rattle.node_spec.specs.PackageTargets as targets
use Rattle.node_spec.specs.PackageTargets.{Call, is_tried, is_undefined, ResolvesTarget, ResolvesItems, ResolvesMembers}
use Rattle.node_spec.specs.declared.Outcome.{Outcome}
use Rattle.ordered_json.specs.Shown.{json_of, items_from}
use Rattle.ordered_json.specs.declared.value.Value.{Value}
use Rattle.condition_match.specs.Choosing.{judged_by}
use Rattle.condition_match.specs.declared.reducing.Left.{Left}
use Rattle.condition_match.specs.declared.reducing.Reduced.{Reduced}
use Rattle.condition_match.specs.declared.reducing.Reduced.TheVariants.{Undefined, Null, InvalidTarget, As}

abbrev pub shown : Reduced → Json
shown Undefined = an_object no_members
shown Null = a_null
shown InvalidTarget = a_bool false
shown (As value) = json_of value

-- null, and what is no target: a list goes on behind them
abbrev pub IsPassed : Reduced → Type 0
IsPassed made = (made ≡ Null) ⊎ (made ≡ InvalidTarget)

-- whatever the one comes to, the other comes to
abbrev pub Follows : (targets.Rules → List Call → Outcome → Type 0) → (targets.Rules → List Call → Outcome → Type 0)
    → List (List ℕ) → Bool → Type 0
Follows One Other conditions imports =
    (star : Option (List ℕ)) (asked : List Call) (out : Outcome) → One (judged_by conditions star imports) asked out
    → Other (judged_by conditions star imports) asked out

abbrev pub IsDefined : (targets.Rules → List Call → Outcome → Type 0) → List (List ℕ) → Bool → Type 0
IsDefined One conditions imports =
    (star : Option (List ℕ)) (asked : List Call) (out : Outcome) → One (judged_by conditions star imports) asked out
    → is_undefined out ≡ false

abbrev pub ComesAs : List (List ℕ) → Bool → Json → Json → Type 0
ComesAs conditions imports target made =
    Follows (λ rules. ResolvesTarget rules made) (λ rules. ResolvesTarget rules target) conditions imports

pub record IsReduced (conditions : List (List ℕ)) (imports : Bool) (target : Json) (made : Reduced) : Type 0 where
  pub comes : ComesAs conditions imports target (shown made)
  pub defined : made ≢ Undefined → IsDefined (λ rules. ResolvesTarget rules (shown made)) conditions imports

abbrev pub left_in : Reduced → List Value → List Json
left_in Undefined back = []
left_in Null back = a_null ∷ map json_of (reverse back)
left_in InvalidTarget back = a_bool false ∷ map json_of (reverse back)
left_in (As value) back = json_of value ∷ map json_of (reverse back)

-- the items that are left: the first one, if there is any, and those behind it, which stand from the last one on
abbrev pub left_of : Left → List Json
left_of left = left_in left.first left.back.items

pub record LeavesItems (conditions : List (List ℕ)) (imports : Bool) (items : Items) (left : Left) : Type 0 where
  pub comes :
      Follows (λ rules. ResolvesItems rules (items_from (left_of left))) (λ rules. ResolvesItems rules items) conditions
      imports
  pub defined :
      left.first ≢ Undefined → IsDefined (λ rules. ResolvesItems rules (items_from (left_of left))) conditions imports
  pub none : left.first ≡ Undefined → left.back.items ≡ []

-- one more item stands before what is left
abbrev pub PutsItem : Reduced → Left → Left → Type 0
PutsItem made left after =
    (conditions : List (List ℕ)) (imports : Bool) (item : Json) (more : Items) → IsReduced conditions imports item made
    → LeavesItems conditions imports more left → LeavesItems conditions imports (an_item item more) after

-- all items of a list were gone through
abbrev pub IsWhole : Left → Reduced → Type 0
IsWhole left made =
    (conditions : List (List ℕ)) (imports : Bool) (item : Json) (more : Items)
    → LeavesItems conditions imports (an_item item more) left
    → IsReduced conditions imports (a_list (an_item item more)) made

pub record LeavesMember (conditions : List (List ℕ)) (imports : Bool) (key : List ℕ) (value : Json) (made : Reduced) : Type 0 where
  pub tried : made ≢ Undefined → (is_tried conditions key ≡ true) × IsReduced conditions imports value made
  pub passed :
      made ≡ Undefined → (more : Members)
      → Follows (λ rules. ResolvesMembers rules more) (λ rules. ResolvesMembers rules (a_member key value more))
      conditions imports
