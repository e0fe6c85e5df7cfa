-- How many places a choice holds.
use Rattle.std.proofs.Common.{refl, sym, ap, ◌∙◌, subst, arith}
use Rattle.std.proofs.lemmas.Bool.{cases_eq, cond-true, cond-false}
use Rattle.std.proofs.lemmas.Option.{none-some}
use Rattle.std.specs.Cmp.Lexicographic.{slice_cmp, nat_list_cmp_total}
use Rattle.std.specs.FinMap.{get, remove, len, len-remove, get-remove, get-empty, empty_of_len, contains_key}
use Rattle.std.specs.Ordering.{nat_cmp}
use Rattle.std.specs.Prelude.{◌≡◌, ◌≢◌, ℕ, ◌≤◌, ◌+◌, ◌-◌, List, [], ◌∷◌, Option, Some, None, Contains, is_some, ⊤}
use mathlib.Core.Logic.{inl, inr}
use Rattle.import_map_spec.specs.ParsedMap.{Texts}
use Rattle.import_map_spec.proofs.Entries.{cases_option}
use Rattle.layout_spec.proofs.Contained.{contains_here, contains_there}
use Rattle.fewest_spec.proofs.Values.{apart_key}

-- no text stands twice
abbrev pub Apart : List (List ℕ) → Type 0
Apart [] = ⊤
Apart (text ∷ more) = (Contains more text → ⊥) × Apart more

abbrev pub one_if_some : {X : Type 0} → Option X → ℕ
one_if_some None = 0
one_if_some (Some x) = 1

module _ {X : Type 0} where
  abbrev pub count_at : Texts X → List (List ℕ) → ℕ
  count_at m [] = 0
  count_at m (key ∷ keys) = one_if_some (get m key) + count_at m keys

  pub without : (m : Texts X) (key other : List ℕ) → (other ≡ key → ⊥) → get (remove m key) other ≡ get m other
  without m key other apart = get-remove nat_list_cmp_total m key other ∙ cond-false _ _ _ (apart_key other key apart)

  pub count_without : (m : Texts X) (key : List ℕ) (keys : List (List ℕ)) → (Contains keys key → ⊥) → count_at (remove m key) keys ≡ count_at m keys
  count_without m key [] apart = refl
  count_without m key (first ∷ keys) apart =
      λ i. one_if_some (without m key first (λ e. apart (subst (Contains (first ∷ keys)) e (contains_here first keys))) i) + count_without m key keys (λ c. apart (contains_there key first keys c)) i

  pub size_without : (m : Texts X) (key : List ℕ) (x : X) → get m key ≡ Some x → len (remove m key) + 1 ≡ len m
  size_without m key x e =
      let smaller : len (remove m key) ≡ len m - 1 = len-remove nat_list_cmp_total m key ∙ cond-true (contains_key m key) (len m - 1) (len m) (ap is_some e) in
      let some : len m ≢ 0 = λ z. none-some x (sym (ap (λ (n : Texts X). get n key) (empty_of_len m z) ∙ get-empty (slice_cmp nat_cmp) key) ∙ e) in
      by (len m) (len (remove m key)) smaller some
    where
      by : (n k : ℕ) → k ≡ n - 1 → n ≢ 0 → k + 1 ≡ n
      by n k e s = elim (cases_eq n 0) [
        | inl z ↦ absurd (s z)
        | inr z ↦ omega arith
      ]

  -- a map has as many entries as are found at different keys, or more
  pub count_within : (m : Texts X) (keys : List (List ℕ)) → Apart keys → count_at m keys ≤ len m
  count_within m [] apart = omega arith
  count_within m (key ∷ keys) apart = elim (cases_option (get m key)) [
    | inl none ↦ let n = ap one_if_some none in let l = count_within m keys apart.1 in omega (arith, n, l)
    | inr some ↦
        let n = ap one_if_some some.1 in
        let l = count_within (remove m key) keys apart.1 in
        let c = count_without m key keys apart.0 in
        let s = size_without m key some.0 some.1 in
        omega (arith, n, l, c, s)
  ]

  -- where it has no more, nothing is found at any other key
  pub nothing_else : (m : Texts X) (keys : List (List ℕ)) (other : List ℕ) → Apart keys → len m ≤ count_at m keys → (Contains keys other → ⊥) → get m other ≡ None
  nothing_else m keys other apart l n = elim (cases_option (get m other)) [
    | inl none ↦ none
    | inr some ↦
        let more = count_within m (other ∷ keys) (n, apart) in
        let one = ap one_if_some some.1 in
        absurd (omega (arith, more, one, l))
  ]
