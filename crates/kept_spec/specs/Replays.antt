-- Askings that are asked again by looks at what they looked at. These words speak of any asking over looks.
--     replayed paths value        looks at these paths, one after another, and comes to this value
--     IsFront front paths         these paths begin with that front
--     ReplaysFootprint X          to look at the footprint of an asking again, in its order, is to ask it
use Rattle.std.specs.Prelude.{◌≡◌, ◌++◌, ℕ, List}
use Rattle.asking_spec.specs.Askings.{answered, and_then, outcome}
use Rattle.asking_spec.specs.Evaluation.{evaluated}
use Rattle.tree_spec.specs.LookAskings.{Sights, LookAsking, look_at_each, footprint}
use Rattle.tree_spec.specs.LookLimits.{LookLimits, Trail, begun, limited}

abbrev pub replayed : {X : Type 0} → List (List ℕ) → X → LookAsking X
replayed paths value = and_then (look_at_each paths) (λ done. answered value)

abbrev pub IsFront : List (List ℕ) → List (List ℕ) → Type 0
IsFront front paths = (rest : List (List ℕ)) × (paths ≡ front ++ rest)

-- own: in a new question. It ends with the same value, or the same limit stops it at the same look, and the trail
-- behind it is the same
abbrev pub ReplaysFootprint : Type 0 → Type 0
ReplaysFootprint X =
    (limits : LookLimits) (sights : Sights) (trail : Trail) (asking : LookAsking X)
    → evaluated (limited limits sights) (begun trail) asking
    ≡ evaluated (limited limits sights) (begun trail) (replayed (footprint sights asking) (outcome sights asking))
