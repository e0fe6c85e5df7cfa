-- The places of one specifier are settled, from the last one on.
--     weights_of wish places      what these places, settled from the last on, cost those before them
--     settled_rows wish places      the penalties of each of them
use Rattle.std.specs.Prelude.{ℕ, List, [], ◌∷◌, map}
use Rattle.fewest_spec.specs.Choosing.{Wish, Weights, no_weight, penalty, reduced}

abbrev pub weights_of : Wish → List (List ℕ) → Weights
weights_of wish [] = no_weight
weights_of wish (place ∷ more) = reduced wish place (weights_of wish more)

abbrev pub row_of : Wish → Weights → List ℕ → List ℕ
row_of wish weights place = map (weights place) wish.targets

abbrev pub settled_row : Wish → Weights → List ℕ → List ℕ
settled_row wish weights place = map (penalty wish weights place) wish.targets

abbrev pub settled_rows : Wish → List (List ℕ) → List (List ℕ)
settled_rows wish [] = []
settled_rows wish (place ∷ more) = settled_row wish (weights_of wish more) place ∷ settled_rows wish more
