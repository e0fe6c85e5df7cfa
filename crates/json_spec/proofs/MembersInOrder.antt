-- The members in an object's order: the same members, indices by number first, and then the others as they are written.
use Rattle.std.specs.Prelude.{◌≡◌, ◌≤◌, ℕ, zero, suc, Bool, true, false, not, List, [], ◌∷◌, ◌++◌, filter, cond, ⊤, All}
use Rattle.std.specs.List.Sorted.{IsPermutation, IsNonDecreasingBy}
use Rattle.std.proofs.Common.{refl, ap, sym, subst, arith, append_assoc}
use Rattle.std.proofs.lemmas.Bool.{cond-true, cond-false, cases_lt, lt-ltb, le-ltb}
use Rattle.std.proofs.lemmas.List.Elements.{All-nil, All-cons, All-head, All-tail, All-get_or}
use Rattle.std.proofs.lemmas.List.Sorted.{IsPermutation-refl, IsPermutation-sym, IsPermutation-cons, IsPermutation-to_front, IsPermutation-append_left, IsPermutation-trans, All-permutation}
use mathlib.Core.Logic.{inl, inr}
use Rattle.json_spec.specs.Value.{Json, Members, no_members, a_member}
use Rattle.json_spec.specs.PropertyOrder.{number_of, is_array_index, Pair, pairs_of, by_number, index_members, other_members, joined}
use Rattle.json_spec.specs.Laws.{MembersInOrder}

joined_pairs : (ms more : Members) → pairs_of (joined ms more) ≡ pairs_of ms ++ pairs_of more
joined_pairs no_members more = refl
joined_pairs (a_member key value ms) more = ap (λ (pairs : List Pair). (key, value) ∷ pairs) (joined_pairs ms more)

-- ---- the same members

swapped : (x y : Pair) (pairs : List Pair) → IsPermutation (y ∷ x ∷ pairs) (x ∷ y ∷ pairs)
swapped x y pairs = IsPermutation-append_left pairs (y ∷ x ∷ []) (x ∷ y ∷ []) (IsPermutation-to_front (y ∷ []) x)

moved_in : (x : Pair) (front back : List Pair) → IsPermutation (x ∷ (front ++ back)) (front ++ x ∷ back)
moved_in x front back =
    subst (IsPermutation (x ∷ (front ++ back))) (append_assoc front (x ∷ []) back)
    (IsPermutation-append_left back (x ∷ front) (front ++ x ∷ []) (IsPermutation-sym (front ++ x ∷ []) (x ∷ front) (IsPermutation-to_front front x)))

put_in : (key : List ℕ) (value : Json) (ms : Members) → IsPermutation ((key, value) ∷ pairs_of ms) (pairs_of (by_number key value ms))
put_in key value no_members = IsPermutation-refl _
put_in key value (a_member k v more) =
    elim (cases_lt (number_of key) (number_of k)) [
      | inl less ↦ subst (λ ms. IsPermutation ((key, value) ∷ (k, v) ∷ pairs_of more) (pairs_of ms)) (sym (cond-true _ _ _ (lt-ltb _ _ less))) (IsPermutation-refl _)
      | inr other ↦ subst (λ ms. IsPermutation ((key, value) ∷ (k, v) ∷ pairs_of more) (pairs_of ms)) (sym (cond-false _ _ _ (le-ltb _ _ other)))
          (IsPermutation-trans _ ((k, v) ∷ (key, value) ∷ pairs_of more) _ (swapped (k, v) (key, value) (pairs_of more)) (IsPermutation-cons (k, v) _ _ (put_in key value more)))
    ]

abbrev Parted : Members → Type 0
Parted ms = IsPermutation (pairs_of ms) (pairs_of (index_members ms) ++ pairs_of (other_members ms))

with_index : (key : List ℕ) (value : Json) (more indices others : Members) → IsPermutation (pairs_of more) (pairs_of indices ++ pairs_of others) → IsPermutation ((key, value) ∷ pairs_of more) (pairs_of (by_number key value indices) ++ pairs_of others)
with_index key value more indices others parted =
    IsPermutation-trans _ ((key, value) ∷ (pairs_of indices ++ pairs_of others)) _ (IsPermutation-cons (key, value) _ _ parted)
    (IsPermutation-append_left (pairs_of others) ((key, value) ∷ pairs_of indices) (pairs_of (by_number key value indices)) (put_in key value indices))

with_other : (key : List ℕ) (value : Json) (more indices others : Members) → IsPermutation (pairs_of more) (pairs_of indices ++ pairs_of others) → IsPermutation ((key, value) ∷ pairs_of more) (pairs_of indices ++ pairs_of (a_member key value others))
with_other key value more indices others parted =
    IsPermutation-trans _ ((key, value) ∷ (pairs_of indices ++ pairs_of others)) _ (IsPermutation-cons (key, value) _ _ parted) (moved_in (key, value) (pairs_of indices) (pairs_of others))

abbrev Splits : List ℕ → Json → Members → Bool → Type 0
Splits key value more test =
    IsPermutation ((key, value) ∷ pairs_of more) (pairs_of (cond test (by_number key value (index_members more)) (index_members more)) ++ pairs_of (cond test (other_members more) (a_member key value (other_members more))))

parted_by : (key : List ℕ) (value : Json) (more : Members) (test : Bool) → Parted more → Splits key value more test
parted_by key value more true parted = with_index key value more (index_members more) (other_members more) parted
parted_by key value more false parted = with_other key value more (index_members more) (other_members more) parted

parted : (ms : Members) → Parted ms
parted no_members = IsPermutation-refl _
parted (a_member key value more) = parted_by key value more (is_array_index key) (parted more)

-- ---- the indices

abbrev IsIndex : Pair → Type 0
IsIndex pair = is_array_index pair.0 ≡ true

are_indices : (ms : Members) → All IsIndex (pairs_of (index_members ms))
are_indices no_members = All-nil IsIndex
are_indices (a_member key value more) = go (is_array_index key) refl (are_indices more)
  where
    go : (test : Bool) → is_array_index key ≡ test → All IsIndex (pairs_of (index_members more)) → All IsIndex (pairs_of (cond test (by_number key value (index_members more)) (index_members more)))
    go true e all = All-permutation IsIndex _ _ (put_in key value (index_members more)) (All-cons IsIndex (key, value) (pairs_of (index_members more)) e all)
    go false e all = all

abbrev number_in : Pair → ℕ
number_in pair = number_of pair.0

abbrev FromNumber : ℕ → Pair → Type 0
FromNumber number pair = number ≤ number_in pair

abbrev Rises : List Pair → Type 0
Rises [] = ⊤
Rises (pair ∷ more) = All (FromNumber (number_in pair)) more × Rises more

all_above : (less more : ℕ) (pairs : List Pair) → less ≤ more → All (FromNumber more) pairs → All (FromNumber less) pairs
all_above less more [] l all = All-nil (FromNumber less)
all_above less more (pair ∷ pairs) l all =
    let here : more ≤ number_in pair = All-head (FromNumber more) pair pairs all in
    All-cons (FromNumber less) pair pairs (omega arith) (all_above less more pairs l (All-tail (FromNumber more) pair pairs all))

rises_with : (key : List ℕ) (value : Json) (ms : Members) → Rises (pairs_of ms) → Rises (pairs_of (by_number key value ms))
rises_with key value no_members r = (All-nil (FromNumber (number_of key)), tt)
rises_with key value (a_member k v more) r =
    elim (cases_lt (number_of key) (number_of k)) [
      | inl less ↦ subst (λ ms. Rises (pairs_of ms)) (sym (cond-true _ _ _ (lt-ltb _ _ less)))
          (All-cons (FromNumber (number_of key)) (k, v) (pairs_of more) (omega arith) (all_above (number_of key) (number_of k) (pairs_of more) (omega arith) r.0), r)
      | inr other ↦ subst (λ ms. Rises (pairs_of ms)) (sym (cond-false _ _ _ (le-ltb _ _ other)))
          (All-permutation (FromNumber (number_of k)) _ _ (put_in key value more) (All-cons (FromNumber (number_of k)) (key, value) (pairs_of more) other r.0), rises_with key value more r.1)
    ]

rises : (ms : Members) → Rises (pairs_of (index_members ms))
rises no_members = tt
rises (a_member key value more) = go (is_array_index key) (rises more)
  where
    go : (test : Bool) → Rises (pairs_of (index_members more)) → Rises (pairs_of (cond test (by_number key value (index_members more)) (index_members more)))
    go true r = rises_with key value (index_members more) r
    go false r = r

ascends : (pairs : List Pair) → Rises pairs → IsNonDecreasingBy number_in pairs
ascends [] r i j d l below = absurd (omega arith)
ascends (pair ∷ pairs) r zero zero d l below = omega arith
ascends (pair ∷ pairs) r zero (suc j) d l below = All-get_or (FromNumber (number_in pair)) pairs j d (omega arith) r.0
ascends (pair ∷ pairs) r (suc i) zero d l below = absurd (omega arith)
ascends (pair ∷ pairs) r (suc i) (suc j) d l below = ascends pairs r.1 i j d (omega arith) (omega arith)

-- ---- the others

abbrev is_other : Pair → Bool
is_other pair = not (is_array_index pair.0)

others : (ms : Members) → pairs_of (other_members ms) ≡ filter is_other (pairs_of ms)
others no_members = refl
others (a_member key value more) = go (is_array_index key) (others more)
  where
    go : (test : Bool) → pairs_of (other_members more) ≡ filter is_other (pairs_of more) → pairs_of (cond test (other_members more) (a_member key value (other_members more))) ≡ cond (not test) ((key, value) ∷ filter is_other (pairs_of more)) (filter is_other (pairs_of more))
    go true e = e
    go false e = ap (λ (pairs : List Pair). (key, value) ∷ pairs) e

pub members_in_order : MembersInOrder
members_in_order = record {
  all_members = λ ms. subst (IsPermutation (pairs_of ms)) (sym (joined_pairs (index_members ms) (other_members ms))) (parted ms);
  indices_first = λ ms. joined_pairs (index_members ms) (other_members ms);
  are_indices = are_indices;
  ascending = λ ms. ascends (pairs_of (index_members ms)) (rises ms);
  others_as_written = others;
}
