-- The nodes of the places of needs for one specifier.
--     IsBuilt done targets nodes      they are the places of these needs, and each says which target its need has
--     InTurn needs      the referrers stand in the order of their bytes
--     IsOver places targets      so many places with so many targets are too many choices
--     AreOver needs targets      the referrers have too many places for this number of targets
--     common one other      how many bytes two texts have in common from the front on
use Rattle.std.specs.Prelude.{◌≡◌, ◌⊎◌, ◌==◌, ◌+◌, ◌*◌, ◌<◌, ℕ, if◌then◌else◌, List, [], ◌∷◌, ◌++◌, Option, Some, None, length, slice_get, Contains, ⊤}
use Rattle.tree_spec.specs.Limits.{limit_number}
use Rattle.tree_spec.specs.declared.LimitName.TheVariants.{Choices}
use Rattle.layout_spec.specs.Places.{places}
use Rattle.layout_spec.specs.declared.Need.{Need}
use Rattle.fewest_spec.specs.Fewest.{Before}
use Rattle.fewest_spec.specs.Wishes.{Ascending, ArePlaces}
use Rattle.place_nodes.specs.Known.{KnowAbove}
use Rattle.place_nodes.specs.Nodes.{places_of}
use Rattle.place_nodes.specs.declared.nodes.Node.{Node}

abbrev pub InTurn : List Need → Type 0
InTurn [] = ⊤
InTurn (need ∷ more) =
    ((other : Need) → Contains more other → (need.referrer ≡ other.referrer) ⊎ Before need.referrer other.referrer)
    × InTurn more

abbrev pub common : List ℕ → List ℕ → ℕ
common [] other = 0
common (b ∷ rest) [] = 0
common (b ∷ rest) (c ∷ more) = if b == c then common rest more + 1 else 0

pub record IsBuilt (done : List Need) (targets : List (List ℕ)) (nodes : List Node) : Type 0 where
  pub sorted : Ascending (places_of nodes)
  pub know : KnowAbove nodes
  pub all :
      (need : Need) (p : List ℕ) → Contains done need → Contains (places need.referrer) p → Contains (places_of nodes) p
  pub only :
      (node : Node) → Contains nodes node
      → (need : Need) × Contains done need × Contains (places need.referrer) node.place
  pub free :
      (node : Node) → Contains nodes node → node.own ≡ None
      → (need : Need) → Contains done need → need.referrer ≡ node.place → ⊥
  pub own :
      (node : Node) (number : ℕ) → Contains nodes node → node.own ≡ Some number
      → (need : Need) × Contains done need × (need.referrer ≡ node.place)
      × (slice_get targets number ≡ Some need.target)

-- the last referrer, before which all other places stand
pub record IsLast (done : List Need) (nodes : List Node) (last : Need) : Type 0 where
  pub is_need : Contains done last
  pub behind : (p : List ℕ) → Contains (places_of nodes) p → (p ≡ last.referrer) ⊎ Before p last.referrer

-- the same with the last need, where there is one
abbrev pub BuiltSo : List Need → List (List ℕ) → List Node → Option Need → Type 0
BuiltSo done targets nodes None = (done ≡ []) × (nodes ≡ [])
BuiltSo done targets nodes (Some last) = IsBuilt done targets nodes × IsLast done nodes last

-- the need comes after the last one
abbrev pub ComesAfter : Option Need → Need → Type 0
ComesAfter None need = ⊤
ComesAfter (Some last) need = (last.referrer ≡ need.referrer) ⊎ Before last.referrer need.referrer

pub record CanAdd (targets : List (List ℕ)) (nodes : List Node) (last : Option Need) (need : Need) : Type 0 where
  pub done : List Need
  pub built : BuiltSo done targets nodes last
  pub turn : ComesAfter last need

abbrev pub IsRowAdded : List (List ℕ) → List Node → Option Need → Need → List Node → Type 0
IsRowAdded targets nodes last need after =
    (done : List Need) → BuiltSo done targets nodes last → Contains targets need.target
    → BuiltSo (done ++ need ∷ []) targets after (Some need)

-- own: the number of the places times that of the targets passes the limit
abbrev pub IsOver : ℕ → ℕ → Type 0
IsOver places targets = limit_number Choices < places * targets

-- own: so are those of these needs, where all of them ask for one specifier
abbrev pub AreOver : List Need → ℕ → Type 0
AreOver needs targets =
    (asked : List ℕ) (ps : List (List ℕ)) → ((need : Need) → Contains needs need → need.asked ≡ asked)
    → ArePlaces needs asked ps → IsOver (length ps) targets
