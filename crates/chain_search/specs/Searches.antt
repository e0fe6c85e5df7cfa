-- The search for a chain, asker by asker in the order in which they are reached.
--     Place M                          an asker, and the numbers of the requests that lead there, the last one first
--     fresh is_same places back number modules     places for those of these modules that aren't among the places yet
--     FirstGoal is_goal modules number             the first of the modules that is looked for
--     NoGoal is_goal modules                       none of them is
--     Searched targets is_same is_goal done rest out     the search comes to this from the places that are left
use Rattle.std.specs.Prelude.{◌≡◌, ◌++◌, ℕ, suc, Bool, true, false, List, [], ◌∷◌, slice_get, Option, Some, None}
use Rattle.std.specs.Prelude.{if◌then◌else◌, ◌<◌}
use Rattle.std.specs.List.{list_any}
use Rattle.chain_spec.specs.Chains.{Asker, by_page, by_module, Targets}

pub record Place (M : Type 0) : Type 0 where
  pub at : Asker M
  pub back : List ℕ

abbrev pub is_at : {M : Type 0} → (M → M → Bool) → M → Asker M → Bool
is_at is_same m by_page = false
is_at is_same m (by_module other) = is_same m other

abbrev pub is_reached : {M : Type 0} → (M → M → Bool) → List (Place M) → M → Bool
is_reached is_same places m = list_any (λ place. is_at is_same m place.at) places

abbrev pub fresh : {M : Type 0} → (M → M → Bool) → List (Place M) → List ℕ → ℕ → List M → List (Place M)
fresh is_same places back number [] = []
fresh is_same places back number (m ∷ more) =
    if is_reached is_same places m then fresh is_same places back (suc number) more
    else record { at = by_module m; back = number ∷ back }
    ∷ fresh is_same (places ++ record { at = by_module m; back = number ∷ back } ∷ []) back (suc number) more

pub record FirstGoal {M : Type 0} (is_goal : M → Bool) (modules : List M) (number : ℕ) : Type 0 where
  pub goal : M
  pub there : slice_get modules number ≡ Some goal
  pub is : is_goal goal ≡ true
  pub first : (other : ℕ) (m : M) → slice_get modules other ≡ Some m → is_goal m ≡ true → other < number → ⊥

abbrev pub NoGoal : {M : Type 0} → (M → Bool) → List M → Type 0
NoGoal {M} is_goal modules = (number : ℕ) (m : M) → slice_get modules number ≡ Some m → is_goal m ≡ false

pub data Searched {M : Type 0} (targets : Targets M) (is_same : M → M → Bool) (is_goal : M → Bool)
    : List (Place M) → List (Place M) → Option (List ℕ) → Type 0 where
  ends : (done : List (Place M)) → Searched targets is_same is_goal done [] None
  hits :
      (done rest : List (Place M)) (place : Place M) (number : ℕ) → FirstGoal is_goal (targets place.at) number
      → Searched targets is_same is_goal done (place ∷ rest) (Some (number ∷ place.back))
  goes :
      (done rest : List (Place M)) (place : Place M) (out : Option (List ℕ)) → NoGoal is_goal (targets place.at)
      → Searched targets is_same is_goal (done ++ place ∷ [])
      (rest ++ fresh is_same (done ++ place ∷ rest) place.back 0 (targets place.at)) out
      → Searched targets is_same is_goal done (place ∷ rest) out
