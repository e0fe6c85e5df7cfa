-- How the fewest places of one specifier are chosen: from the last place in byte order to the first each place says what
-- it costs the place above it, and from the first to the last each takes what then costs least.
--     Wish      a specifier, the targets that can be chosen for it, and which target fits a referrer
--     Weights      what a place costs those below it that are settled, by its value
--     is_best wish weights place value      no target that fits costs less
--     reduced wish weights place      the place is settled: each value that isn't best costs the place above it one
--     chosen wish places weights      the choice among places, of which the last in byte order stands first
use Rattle.std.specs.FinMap.{get, insert, empty}
use Rattle.std.specs.List.{list_all, find}
use Rattle.std.specs.Prelude.{◌+◌, ◌&&◌, ◌||◌, not, ℕ, Bool, false, cond, leb, List, [], ◌∷◌, Option, Some, None, unwrap_or, bytes_eq}
use Rattle.layout_spec.specs.Places.{above, place_above}
use Rattle.layout_spec.specs.Serving.{first_of}
use Rattle.fewest_spec.specs.Fewest.{Choice, Held}

pub record Wish : Type 0 where
  pub asked : List ℕ
  pub targets : List (List ℕ)
  pub fits : List ℕ → List ℕ → Bool

abbrev pub Weights : Type 0
Weights = List ℕ → List ℕ → ℕ

abbrev pub no_weight : Weights
no_weight place value = 0

abbrev pub is_beaten : Wish → Weights → List ℕ → List ℕ → List ℕ → Bool
is_beaten wish weights place value other = not (wish.fits place other) || leb (weights place value) (weights place other)

unfoldable pub is_best : Wish → Weights → List ℕ → List ℕ → Bool
is_best wish weights place value = wish.fits place value && list_all (is_beaten wish weights place value) wish.targets

abbrev pub penalty : Wish → Weights → List ℕ → List ℕ → ℕ
penalty wish weights place value = cond (is_best wish weights place value) 0 1

-- the place above is this one
abbrev pub is_above_at : Option (List ℕ) → List ℕ → Bool
is_above_at None place = false
is_above_at (Some higher) place = bytes_eq higher place

unfoldable pub reduced : Wish → List ℕ → Weights → Weights
reduced wish place weights other value =
    weights other value + cond (is_above_at (place_above place) other) (penalty wish weights place value) 0

-- what a place has from above
abbrev pub from_above : Held → List ℕ → List ℕ → List ℕ
from_above held asked place = unwrap_or (first_of held (above place)) asked

-- the first of the targets that are best
abbrev pub first_best : Wish → Weights → List ℕ → List ℕ
first_best wish weights place = unwrap_or (find (is_best wish weights place) wish.targets) wish.asked

abbrev pub settled : Wish → Weights → List ℕ → Choice → Choice
settled wish weights place choice =
    cond (is_best wish weights place (from_above (get choice) wish.asked place)) choice (insert choice place (first_best wish weights place))

abbrev pub chosen : Wish → List (List ℕ) → Weights → Choice
chosen wish [] weights = empty
chosen wish (place ∷ before) weights = settled wish weights place (chosen wish before (reduced wish place weights))
