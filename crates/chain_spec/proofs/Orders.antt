-- The order of lists of numbers by their lengths, and then number by number.
use Rattle.std.proofs.Common.{◌≡◌, ◌⊎◌, [], ◌∷◌, ℕ, List, refl, sym, inl, inr, length, arith}
use Rattle.std.proofs.lemmas.Bool.{cases_lt}
use Rattle.chain_spec.specs.Chains.{Less, GoesBefore}

less_not_both : (a b : List ℕ) → Less a b → Less b a → ⊥
less_not_both [] b p q = absurd (p)
less_not_both (x ∷ a) [] p q = absurd (p)
less_not_both (x ∷ a) (y ∷ b) (inl p) (inl q) = absurd (omega (arith, p, q))
less_not_both (x ∷ a) (y ∷ b) (inl p) (inr q) = (let same = q.0 in absurd (omega (arith, p, same)))
less_not_both (x ∷ a) (y ∷ b) (inr p) (inl q) = (let same = p.0 in absurd (omega (arith, q, same)))
less_not_both (x ∷ a) (y ∷ b) (inr p) (inr q) = less_not_both a b p.1 q.1

pub not_both : (a b : List ℕ) → GoesBefore a b → GoesBefore b a → ⊥
not_both a b (inl p) (inl q) = absurd (omega (arith, p, q))
not_both a b (inl p) (inr q) = (let same = q.0 in absurd (omega (arith, p, same)))
not_both a b (inr p) (inl q) = (let same = p.0 in absurd (omega (arith, q, same)))
not_both a b (inr p) (inr q) = less_not_both a b p.1 q.1

pub not_itself : (a : List ℕ) → GoesBefore a a → ⊥
not_itself a p = not_both a a p p

one_less : (a b : List ℕ) → length a ≡ length b → (a ≡ b) ⊎ (Less a b ⊎ Less b a)
one_less [] [] e = inl refl
one_less [] (y ∷ b) e = absurd (omega (arith, e))
one_less (x ∷ a) [] e = absurd (omega (arith, e))
one_less (x ∷ a) (y ∷ b) e =
    elim (cases_lt x y) [
      | inl less ↦ inr (inl (inl less))
      | inr not_less ↦ elim (cases_lt y x) [
        | inl more ↦ inr (inr (inl more))
        | inr not_more ↦
            let same : x ≡ y = omega (arith, not_less, not_more) in
            elim (one_less a b (omega (arith, e))) [
              | inl all ↦ inl (λ i. same i ∷ all i)
              | inr one ↦ elim one [
                | inl less ↦ inr (inl (inr (same, less)))
                | inr more ↦ inr (inr (inr (sym same, more)))
              ]
            ]
      ]
    ]

pub one_before : (a b : List ℕ) → (a ≡ b) ⊎ (GoesBefore a b ⊎ GoesBefore b a)
one_before a b =
    elim (cases_lt (length a) (length b)) [
      | inl less ↦ inr (inl (inl less))
      | inr not_less ↦ elim (cases_lt (length b) (length a)) [
        | inl more ↦ inr (inr (inl more))
        | inr not_more ↦
            let same : length a ≡ length b = omega (arith, not_less, not_more) in
            elim (one_less a b same) [
              | inl all ↦ inl all
              | inr one ↦ elim one [
                | inl less ↦ inr (inl (inr (same, less)))
                | inr more ↦ inr (inr (inr (sym same, more)))
              ]
            ]
      ]
    ]
