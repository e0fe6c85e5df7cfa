-- What a list contains.
use Rattle.std.proofs.Common.{◌≡◌, ◌<◌, ◌⊎◌, ℕ, zero, suc, List, [], ◌∷◌, length, refl, arith, inl, inr}
use Rattle.std.specs.Prelude.{slice_index_or, Contains}

module _ {A : Type 0} where
  pub contains_here : (x : A) (xs : List A) → Contains (x ∷ xs) x
  contains_here x xs = (0, omega arith, refl)

  pub contains_there : (x y : A) (xs : List A) → Contains xs x → Contains (y ∷ xs) x
  contains_there x y xs c = (suc c.0, (let below = c.1 in omega arith), c.2)

  cases_at : (x y : A) (xs : List A) (k : ℕ) → k < length (y ∷ xs) → slice_index_or (y ∷ xs) k x ≡ x → (y ≡ x) ⊎ Contains xs x
  cases_at x y xs zero below e = inl e
  cases_at x y xs (suc k) below e = inr (k, omega arith, e)

  pub contains_cases : (x y : A) (xs : List A) → Contains (y ∷ xs) x → (y ≡ x) ⊎ Contains xs x
  contains_cases x y xs c = cases_at x y xs c.0 c.1 c.2

  pub contains_none : (x : A) → Contains [] x → ⊥
  contains_none x c = let below = c.1 in absurd (omega arith)
