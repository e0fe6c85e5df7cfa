-- What lists contain that are made of others.
use Rattle.std.proofs.Common.{◌≡◌, ◌+◌, ◌<◌, [], ◌∷◌, ◌++◌, ℕ, List, zero, suc, length, take, map, get_or, Some, refl, sym, ap, ◌∙◌, subst, inl, inr, arith}
use Rattle.std.specs.Prelude.{Contains, slice_get}
use Rattle.tree_spec.proofs.Contained.{contains_here, contains_there, contains_cases, contains_none}

pub contains_mapped : {A B : Type 0} (f : A → B) (xs : List A) (x : A) → Contains xs x → Contains (map f xs) (f x)
contains_mapped f [] x held = absurd (contains_none x held)
contains_mapped f (y ∷ xs) x held =
    elim (contains_cases x y xs held) [
      | inl same ↦ subst (λ z. Contains (map f (y ∷ xs)) (f z)) same (contains_here (f y) (map f xs))
      | inr later ↦ contains_there (f x) (f y) (map f xs) (contains_mapped f xs x later)
    ]

-- what a mapped list contains is made of something
pub record IsMade {A B : Type 0} (f : A → B) (xs : List A) (y : B) : Type 0 where
  pub source : A
  pub held : Contains xs source
  pub is : f source ≡ y

pub made_of : {A B : Type 0} (f : A → B) (xs : List A) (y : B) → Contains (map f xs) y → IsMade f xs y
made_of f [] y held = absurd (contains_none y held)
made_of f (x ∷ xs) y held =
    elim (contains_cases y (f x) (map f xs) held) [
      | inl same ↦ record { source = x; held = contains_here x xs; is = same }
      | inr later ↦ (let more = made_of f xs y later in
          record { source = more.source; held = contains_there more.source x xs more.held; is = more.is })
    ]

pub contains_at : {A : Type 0} (xs : List A) (place : ℕ) (x : A) → slice_get xs place ≡ Some x → Contains xs x
contains_at [] place x at = absurd (cc)
contains_at (y ∷ xs) zero x at =
    let same : y ≡ x = cc in subst (λ z. Contains (y ∷ xs) z) same (contains_here y xs)
contains_at (y ∷ xs) (suc place) x at = contains_there x y xs (contains_at xs place x at)

-- the first ones with the next one
taken_next : {A : Type 0} (xs : List A) (place : ℕ) (x : A) → slice_get xs place ≡ Some x
    → take (suc place) xs ≡ take place xs ++ x ∷ []
taken_next [] place x at = absurd (cc)
taken_next (y ∷ xs) zero x at = (let same : y ≡ x = cc in ap (λ z. z ∷ []) same)
taken_next (y ∷ xs) (suc place) x at = ap (λ zs. y ∷ zs) (taken_next xs place x at)

pub taken_more : {A : Type 0} (xs : List A) (place : ℕ) (x : A) → slice_get xs place ≡ Some x
    → take (place + 1) xs ≡ take place xs ++ x ∷ []
taken_more xs place x at =
    let next : place + 1 ≡ suc place = omega arith in ap (λ n. take n xs) next ∙ taken_next xs place x at

pub got : {A : Type 0} (xs : List A) (place : ℕ) (x : A) → place < length xs → x ≡ get_or xs place x
    → slice_get xs place ≡ Some x
got [] place x below is = absurd (omega (arith, below))
got (y ∷ xs) zero x below is = ap Some (sym is)
got (y ∷ xs) (suc place) x below is = got xs place x (omega (arith, below)) is
