-- Lists in which each text stands once, sums over them, and a map that is gathered from them.
use Rattle.std.proofs.Common.{refl, sym, ◌∙◌, subst, arith}
use Rattle.std.proofs.lemmas.Option.{none-some}
use Rattle.std.specs.FinMap.{get, insert, empty}
use Rattle.std.specs.Prelude.{◌≡◌, ℕ, ◌≤◌, ◌+◌, List, [], ◌∷◌, Option, Some, None, Contains}
use mathlib.Core.Logic.{inl, inr}
use Rattle.import_map_spec.proofs.Entries.{get_nowhere}
use Rattle.layout_spec.proofs.Contained.{contains_here, contains_there, contains_cases, contains_none}
use Rattle.fewest_spec.specs.Fewest.{Choice, Held}
use Rattle.fewest_spec.proofs.Counts.{Apart}
use Rattle.fewest_spec.proofs.Values.{get_here, get_before, put_cases}
use Rattle.fewest_spec.proofs.Weighing.{cases_among}

-- ---- each text once

pub record IsOnce (texts once : List (List ℕ)) : Type 0 where
  pub apart : Apart once
  pub all : (x : List ℕ) → Contains texts x → Contains once x

pub some_once : (texts : List (List ℕ)) → (once : List (List ℕ)) × IsOnce texts once
some_once [] = ([], record { apart = tt; all = λ x c. c })
some_once (first ∷ texts) =
    let rest = some_once texts in
    elim (cases_among rest.0 first) [
      | inl at ↦ (
        rest.0,
        record {
          apart = rest.1.apart;
          all = λ x c. elim (contains_cases x first texts c) [
            | inl same ↦ subst (Contains rest.0) same at
            | inr later ↦ rest.1.all x later
          ];
        },
      )
      | inr n ↦ (
        first ∷ rest.0,
        record {
          apart = (n, rest.1.apart);
          all = λ x c. elim (contains_cases x first texts c) [
            | inl same ↦ subst (Contains (first ∷ rest.0)) same (contains_here first rest.0)
            | inr later ↦ contains_there x first rest.0 (rest.1.all x later)
          ];
        },
      )
    ]

-- ---- sums

abbrev pub sum_over : (List ℕ → ℕ) → List (List ℕ) → ℕ
sum_over f [] = 0
sum_over f (x ∷ xs) = f x + sum_over f xs

pub sum_below : (f g : List ℕ → ℕ) (xs : List (List ℕ)) → ((x : List ℕ) → f x ≤ g x) → sum_over f xs ≤ sum_over g xs
sum_below f g [] l = omega arith
sum_below f g (x ∷ xs) l = let a = l x in let b = sum_below f g xs l in omega (arith, a, b)

sum_added : (f g : List ℕ → ℕ) (xs : List (List ℕ)) → sum_over (λ x. f x + g x) xs ≡ sum_over f xs + sum_over g xs
sum_added f g [] = refl
sum_added f g (x ∷ xs) = let b = sum_added f g xs in omega (arith, b)

sum_none : (xs : List (List ℕ)) → sum_over (λ x. 0) xs ≡ 0
sum_none [] = refl
sum_none (x ∷ xs) = let b = sum_none xs in omega (arith, b)

pub exchanged : (f : List ℕ → List ℕ → ℕ) (xs ys : List (List ℕ)) → sum_over (λ x. sum_over (f x) ys) xs ≡ sum_over (λ y. sum_over (λ x. f x y) xs) ys
exchanged f [] ys = sym (sum_none ys)
exchanged f (x ∷ xs) ys = let a = exchanged f xs ys in let b = sum_added (f x) (λ y. sum_over (λ x. f x y) xs) ys in omega (arith, a, b)

-- ---- a choice of what places hold

abbrev pub put_given : Choice → List ℕ → Option (List ℕ) → Choice
put_given c p None = c
put_given c p (Some t) = insert c p t

abbrev pub gathered : Held → List (List ℕ) → Choice
gathered f [] = empty
gathered f (p ∷ ps) = put_given (gathered f ps) p (f p)

pub gathered_within : (f : Held) (ps : List (List ℕ)) (q t : List ℕ) → get (gathered f ps) q ≡ Some t → Contains ps q
gathered_within f [] q t e = absurd (none-some t (sym (get_nowhere q) ∙ e))
gathered_within f (p ∷ ps) q t e = by (f p) e (gathered_within f ps q t)
  where
    by : (o : Option (List ℕ)) → get (put_given (gathered f ps) p o) q ≡ Some t → (get (gathered f ps) q ≡ Some t → Contains ps q) → Contains (p ∷ ps) q
    by None e inner = contains_there q p ps (inner e)
    by (Some u) e inner = elim (put_cases (gathered f ps) p u q t e) [
      | inl same ↦ subst (Contains (p ∷ ps)) same (contains_here p ps)
      | inr later ↦ contains_there q p ps (inner later)
    ]

pub gathered_at : (f : Held) (ps : List (List ℕ)) (q : List ℕ) → Apart ps → Contains ps q → get (gathered f ps) q ≡ f q
gathered_at f [] q apart c = absurd (contains_none q c)
gathered_at f (p ∷ ps) q apart c = elim (contains_cases q p ps c) [
  | inl same ↦ subst (λ r. get (gathered f (p ∷ ps)) r ≡ f r) same (here (f p) refl)
  | inr later ↦ away (f p) (λ same. apart.0 (subst (Contains ps) same later)) ∙ gathered_at f ps q apart.1 later
]
  where
    outside : get (gathered f ps) p ≡ None
    outside = by (get (gathered f ps) p) refl
      where
        by : (o : Option (List ℕ)) → get (gathered f ps) p ≡ o → get (gathered f ps) p ≡ None
        by None e = e
        by (Some t) e = absurd (apart.0 (gathered_within f ps p t e))

    here : (o : Option (List ℕ)) → f p ≡ o → get (put_given (gathered f ps) p o) p ≡ f p
    here None e = outside ∙ sym e
    here (Some t) e = get_here (gathered f ps) p t ∙ sym e

    away : (o : Option (List ℕ)) → (q ≡ p → ⊥) → get (put_given (gathered f ps) p o) q ≡ get (gathered f ps) q
    away None n = refl
    away (Some t) n = get_before (gathered f ps) p t q n
