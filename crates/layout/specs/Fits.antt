-- What targets cost a place, and their penalties, as they are kept in memory.
--     costs_by total fits      each target costs the total, less the number of the places below that it fits
--     all_fits width total alone fits      these numbers, where no list is made before two targets fit
--     IsKept width total fits      of so many targets none fits more places than there are
--     own_row width own      the penalties of so many targets, of which one fits alone
--     best_row best      the penalties, where each is told to be best or not
--     fitted number fits      the target with this number fits one more
--     fitted_from number best fits      each best target fits one more
--     ArePaid fits row more      a place with these penalties is counted
use Rattle.std.specs.Prelude.{◌≡◌, ◌==◌, ◌<◌, ◌≤◌, ◌+◌, ◌-◌, ℕ, zero, suc, max, Bool, cond, List, [], ◌∷◌, Option, Some, None, length, replicate}
use Rattle.layout.specs.Costs.{added}

abbrev pub costs_by : ℕ → List ℕ → List ℕ
costs_by total [] = []
costs_by total (fit ∷ fits) = (total - fit) ∷ costs_by total fits

-- own: one target fits so often, and no other one
abbrev pub alone_fits : ℕ → ℕ → ℕ → List ℕ
alone_fits zero number count = []
alone_fits (suc width) zero count = count ∷ replicate width 0
alone_fits (suc width) (suc number) count = 0 ∷ alone_fits width number count

abbrev pub alone_by : ℕ → ℕ → Option ℕ → List ℕ
alone_by width total None = replicate width 0
alone_by width total (Some number) = alone_fits width number total

-- own: an empty list stands for that in which one target fits all places below, or there is none
abbrev pub all_fits : ℕ → ℕ → Option ℕ → List ℕ → List ℕ
all_fits width total alone [] = alone_by width total alone
all_fits width total alone (fit ∷ fits) = fit ∷ fits

abbrev pub AtMost : ℕ → List ℕ → Type 0
AtMost total [] = Unit {0}
AtMost total (fit ∷ fits) = (fit ≤ total) × AtMost total fits

pub record IsKept (width total : ℕ) (fits : List ℕ) : Type 0 where
  pub at_most : AtMost total fits
  pub count : length fits ≡ width

-- own: one target fits all places below
pub record IsAlone (width total : ℕ) (alone : Option ℕ) (fits : List ℕ) (number : ℕ) : Type 0 where
  pub none : length fits ≡ 0
  pub within : number < width
  pub some : 0 < total
  pub alone_is : alone ≡ Some number

abbrev pub own_row : ℕ → ℕ → List ℕ
own_row zero own = []
own_row (suc width) zero = 0 ∷ replicate width 1
own_row (suc width) (suc own) = 1 ∷ own_row width own

abbrev pub penalty_by : Bool → ℕ
penalty_by is_best = cond is_best 0 1

abbrev pub best_row : List Bool → List ℕ
best_row [] = []
best_row (is_best ∷ best) = penalty_by is_best ∷ best_row best

-- own: the row of a place, which may have a target of its own
abbrev pub row_by : Option ℕ → ℕ → List Bool → List ℕ
row_by None width best = best_row best
row_by (Some own) width best = own_row width own

abbrev pub greatest_from : ℕ → List ℕ → ℕ
greatest_from greatest [] = greatest
greatest_from greatest (fit ∷ fits) = greatest_from (max greatest fit) fits

abbrev pub best_at : ℕ → List ℕ → List Bool
best_at greatest [] = []
best_at greatest (fit ∷ fits) = (fit == greatest) ∷ best_at greatest fits

abbrev pub fitted : ℕ → List ℕ → List ℕ
fitted number [] = []
fitted zero (fit ∷ fits) = (fit + 1) ∷ fits
fitted (suc number) (fit ∷ fits) = fit ∷ fitted number fits

-- own: the targets have numbers from this one on
abbrev pub fitted_from : ℕ → List Bool → List ℕ → List ℕ
fitted_from number [] fits = fits
fitted_from number (is_best ∷ best) fits = fitted_from (number + 1) best (cond is_best (fitted number fits) fits)

pub record ArePaid (fits row more : List ℕ) : Type 0 where
  pub paid : (total : ℕ) → AtMost total fits → costs_by (total + 1) more ≡ added (costs_by total fits) row
  pub at_most : (total : ℕ) → AtMost total fits → AtMost (total + 1) more
