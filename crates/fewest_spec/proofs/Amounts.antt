-- How many texts there are: what stands apart in one list and is in another is no more than that has.
use Rattle.std.proofs.Common.{sym, ◌∙◌, subst, arith}
use Rattle.std.specs.Prelude.{◌≡◌, ℕ, ◌≤◌, ◌+◌, List, [], ◌∷◌, length, Contains}
use mathlib.Core.Logic.{inl, inr}
use Rattle.layout_spec.proofs.Contained.{contains_here, contains_there, contains_cases, contains_none}
use Rattle.fewest_spec.proofs.Counts.{Apart}

record IsWithout (xs : List (List ℕ)) (x : List ℕ) (ys : List (List ℕ)) : Type 0 where
  pub count : length xs ≡ length ys + 1
  pub kept : (y : List ℕ) → Contains xs y → (y ≡ x → ⊥) → Contains ys y

without_one : (x : List ℕ) (xs : List (List ℕ)) → Contains xs x → (ys : List (List ℕ)) × IsWithout xs x ys
without_one x [] c = absurd (contains_none x c)
without_one x (first ∷ xs) c = elim (contains_cases x first xs c) [
  | inl same ↦ (
    xs,
    record {
      count = omega arith;
      kept = λ y d apart. elim (contains_cases y first xs d) [
        | inl is ↦ absurd (apart (sym is ∙ same))
        | inr later ↦ later
      ];
    },
  )
  | inr later ↦
      let rest = without_one x xs later in (
        first ∷ rest.0,
        record {
          count = (let n = rest.1.count in omega (arith, n));
          kept = λ y d apart. elim (contains_cases y first xs d) [
            | inl is ↦ subst (Contains (first ∷ rest.0)) is (contains_here first rest.0)
            | inr behind ↦ contains_there y first rest.0 (rest.1.kept y behind apart)
          ];
        },
      )
]

pub no_more : (xs ys : List (List ℕ)) → Apart xs → ((x : List ℕ) → Contains xs x → Contains ys x) → length xs ≤ length ys
no_more [] ys apart within = omega arith
no_more (x ∷ xs) ys apart within =
    let rest = without_one x ys (within x (contains_here x xs)) in
    let n = rest.1.count in
    let l = no_more xs rest.0 apart.1 (λ y c. rest.1.kept y (within y (contains_there y x xs c)) (λ same. apart.0 (subst (Contains xs) same c))) in
    omega (arith, n, l)
