-- A list with one item more at its end.
use Rattle.std.proofs.Common.{◌≡◌, ◌⊎◌, ◌++◌, [], ◌∷◌, ℕ, zero, suc, List, length, Some, refl, ap, inl, inr}
use Rattle.std.specs.Prelude.{slice_get}

pub kept : {A : Type 0} (xs ys : List A) (i : ℕ) (x : A) → slice_get xs i ≡ Some x → slice_get (xs ++ ys) i ≡ Some x
kept [] ys i x e = absurd (cc)
kept (y ∷ xs) ys zero x e = e
kept (y ∷ xs) ys (suc i) x e = kept xs ys i x e

pub at_seam : {A : Type 0} (xs ys : List A) (y : A) → slice_get (xs ++ y ∷ ys) (length xs) ≡ Some y
at_seam [] ys y = refl
at_seam (x ∷ xs) ys y = at_seam xs ys y

pub at_end : {A : Type 0} (xs : List A) (y : A) (i : ℕ) (x : A) → slice_get (xs ++ y ∷ []) i ≡ Some x
    → (slice_get xs i ≡ Some x) ⊎ ((i ≡ length xs) × (y ≡ x))
at_end [] y zero x e = inr (refl, cc)
at_end [] y (suc i) x e = absurd (cc)
at_end (z ∷ xs) y zero x e = inl e
at_end (z ∷ xs) y (suc i) x e =
    elim (at_end xs y i x e) [
      | inl old ↦ inl old
      | inr last ↦ inr (ap suc last.0, last.1)
    ]
