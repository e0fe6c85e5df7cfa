-- How often a number stands in a list.
use Rattle.std.proofs.Common.{◌≡◌, ◌≢◌, ◌⊎◌, inl, inr, ℕ, zero, suc, ◌+◌, ◌<◌, ◌≤◌, List, [], ◌∷◌, ◌++◌, length, refl, ap, arith}
use Rattle.std.proofs.lemmas.Grind.{common_steps}
use Rattle.slot_arena.specs.Kept.{times, down_to}

pub same_or_not : (a b : ℕ) → (a ≡ b) ⊎ (a ≢ b)
same_or_not zero zero = inl refl
same_or_not zero (suc b) = inr (λ e. omega (arith, e))
same_or_not (suc a) zero = inr (λ e. omega (arith, e))
same_or_not (suc a) (suc b) = elim (same_or_not a b) [ inl e ↦ inl (ap suc e) | inr ne ↦ inr (λ e. ne (omega (arith, e))) ]

pub below_or_not : (a b : ℕ) → (a < b) ⊎ (b ≤ a)
below_or_not a zero = inr (omega arith)
below_or_not zero (suc b) = inl (omega arith)
below_or_not (suc a) (suc b) = elim (below_or_not a b) [ inl lt ↦ inl (omega (arith, lt)) | inr le ↦ inr (omega (arith, le)) ]

pub times-append : (i : ℕ) (js ks : List ℕ) → times i (js ++ ks) ≡ times i js + times i ks
times-append i [] ks = omega arith
times-append i (j ∷ js) ks = omega (arith, times-append i js ks)

pub times-one : (i j : ℕ) → i ≡ j → times i (j ∷ []) ≡ 1
times-one i j e = grind (arith, common_steps)

pub times-none : (i j : ℕ) → i ≢ j → times i (j ∷ []) ≡ 0
times-none i j ne = grind (arith, common_steps)

pub times-below : (i from n : ℕ) → i < from → times i (down_to from n) ≡ 0
times-below i from zero lt = refl
times-below i from (suc n) lt =
    let e : times i ((from + n) ∷ []) ≡ 0 = times-none i (from + n) (λ e. omega (arith, e, lt)) in omega (arith, e, times-below i from n lt)

pub times-past : (i from n : ℕ) → from + n ≤ i → times i (down_to from n) ≡ 0
times-past i from zero le = refl
times-past i from (suc n) le =
    let e : times i ((from + n) ∷ []) ≡ 0 = times-none i (from + n) (λ e. omega (arith, e, le)) in omega (arith, e, times-past i from n (omega (arith, le)))

pub times-within : (i from n : ℕ) → from ≤ i → i < from + n → times i (down_to from n) ≡ 1
times-within i from zero le lt = absurd (omega (arith, le, lt))
times-within i from (suc n) le lt = elim (same_or_not i (from + n)) [
  | inl e ↦ let one : times i ((from + n) ∷ []) ≡ 1 = times-one i (from + n) e in omega (arith, one, times-past i from n (omega (arith, e)))
  | inr ne ↦ let none : times i ((from + n) ∷ []) ≡ 0 = times-none i (from + n) ne in omega (arith, none, times-within i from n le (omega (arith, lt, ne)))
]

pub length-down_to : (from n : ℕ) → length (down_to from n) ≡ n
length-down_to from zero = refl
length-down_to from (suc n) = omega (arith, length-down_to from n)
