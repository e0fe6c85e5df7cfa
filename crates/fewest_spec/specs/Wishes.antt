-- What is chosen for: the places and the targets of the needs for one specifier.
--     Ascending, Descending texts      in the order of their bytes, each once
--     ArePlaces needs asked ps      the places of the referrers of these needs, the last one first
--     AreTargets needs asked ts      the targets of these needs
--     HasManyChoices needs asked      these places times these targets are more than are looked at
--     HasTooManyChoices needs      so it is for some specifier
--     IsWishOf needs asked wish      the targets are in order, and those fit a place that its needs have
use Rattle.std.specs.Prelude.{◌≡◌, ◌<◌, ◌↔◌, ◌*◌, ℕ, true, List, [], ◌∷◌, length, Contains, ⊤}
use Rattle.tree_spec.specs.Limits.{limit_number}
use Rattle.tree_spec.specs.declared.LimitName.TheVariants.{Choices}
use Rattle.layout_spec.specs.Places.{places}
use Rattle.layout_spec.specs.declared.Need.{Need}
use Rattle.fewest_spec.specs.Choosing.{Wish}
use Rattle.fewest_spec.specs.Fewest.{Before}

-- each text comes before those after it
abbrev pub Ascending : List (List ℕ) → Type 0
Ascending [] = ⊤
Ascending (text ∷ more) = ((other : List ℕ) → Contains more other → Before text other) × Ascending more

-- each text comes behind those after it
abbrev pub Descending : List (List ℕ) → Type 0
Descending [] = ⊤
Descending (text ∷ more) = ((other : List ℕ) → Contains more other → Before other text) × Descending more

-- a need for the specifier whose referrer has the place
pub record IsUnder (needs : List Need) (asked place : List ℕ) (need : Need) : Type 0 where
  pub is_need : Contains needs need
  pub asks : need.asked ≡ asked
  pub under : Contains (places need.referrer) place

-- own: the places of the referrers that need the specifier
pub record ArePlaces (needs : List Need) (asked : List ℕ) (ps : List (List ℕ)) : Type 0 where
  pub down : Descending ps
  pub all :
      (need : Need) (p : List ℕ) → Contains needs need → need.asked ≡ asked → Contains (places need.referrer) p
      → Contains ps p
  pub only : (p : List ℕ) → Contains ps p → (need : Need) × IsUnder needs asked p need

-- own: the targets of the needs for the specifier
pub record AreTargets (needs : List Need) (asked : List ℕ) (ts : List (List ℕ)) : Type 0 where
  pub up : Ascending ts
  pub all : (need : Need) → Contains needs need → need.asked ≡ asked → Contains ts need.target
  pub only :
      (t : List ℕ) → Contains ts t → (need : Need) × Contains needs need × (need.asked ≡ asked) × (need.target ≡ t)

-- own: the number of the places of the referrers that need the specifier, times the number of its targets, passes the
-- limit
pub record HasManyChoices (needs : List Need) (asked : List ℕ) : Type 0 where
  pub ps : List (List ℕ)
  pub ts : List (List ℕ)
  pub places : ArePlaces needs asked ps
  pub targets : AreTargets needs asked ts
  pub many : limit_number Choices < length ps * length ts

-- own: some specifier has so many choices
abbrev pub HasTooManyChoices : List Need → Type 0
HasTooManyChoices needs = (asked : List ℕ) × HasManyChoices needs asked

-- a need for the specifier whose referrer is the place
pub record IsAt (needs : List Need) (asked place : List ℕ) (need : Need) : Type 0 where
  pub is_need : Contains needs need
  pub asks : need.asked ≡ asked
  pub at : need.referrer ≡ place

pub record IsWishOf (needs : List Need) (asked : List ℕ) (wish : Wish) : Type 0 where
  pub asked_is : wish.asked ≡ asked
  pub sorted : Ascending wish.targets
  pub itself : Contains wish.targets asked
  pub targets : (need : Need) → Contains needs need → need.asked ≡ asked → Contains wish.targets need.target
  pub fits :
      (place value : List ℕ)
      → (wish.fits place value ≡ true) ↔ ((need : Need) → IsAt needs asked place need → need.target ≡ value)
