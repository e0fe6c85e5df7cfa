-- The pair at a key takes another value.
use Rattle.std.specs.Prelude.{◌≡◌, ℕ, zero, suc, ◌<◌, ◌≤◌, Bool, true, false, cond, List, [], ◌∷◌, map, length, slice_set, slice_index_or, bytes_eq}
use Rattle.std.proofs.Common.{refl, sym, ap, ◌∙◌, subst, arith}
use Rattle.std.proofs.lemmas.Bool.{cases_Bool, cases_lt, cond-true, cond-false, true≢false}
use Rattle.std.specs.List.{AllByRecursion}
use Rattle.std.specs.List.Sorted.{IsStrictlySortedBy, IsPartitionedBy}
use Rattle.std.specs.Ordering.{nat_cmp, is_lt, is_eq, ordering_reverse}
use Rattle.std.specs.Cmp.Lexicographic.{slice_cmp, nat_list_cmp_total, texts_ties}
use Rattle.std.specs.declared.cmp.Ordering.TheVariants.{Less, Equal, Greater}
use Rattle.std.specs.Map.{keys_of}
use mathlib.Core.Logic.{inl, inr}
use Rattle.import_map_spec.proofs.Entries.{same_key, same_key_is, same_key_itself}
use Rattle.scope_builder.specs.Keys.{InKeyOrder, IsPlace, is_below, with_value}

-- ---- texts

pub same_text : (a b : List ℕ) → bytes_eq a b ≡ true → a ≡ b
same_text a b e = same_key_is a b (sym (texts_ties a b) ∙ e)

pub text_itself : (a : List ℕ) → bytes_eq a a ≡ true
text_itself a = texts_ties a a ∙ same_key_itself a

smaller_differs : (a b : List ℕ) → slice_cmp nat_cmp a b ≡ Less → bytes_eq a b ≡ false
smaller_differs a b e = texts_ties a b ∙ ap is_eq e

greater_differs : (a b : List ℕ) → slice_cmp nat_cmp b a ≡ Less → bytes_eq a b ≡ false
greater_differs a b e = texts_ties a b ∙ (ap is_eq (nat_list_cmp_total.antisymm a b) ∙ ap (λ o. is_eq (ordering_reverse o)) e)

below_differs : (a b : List ℕ) → is_lt (slice_cmp nat_cmp a b) ≡ true → bytes_eq a b ≡ false
below_differs a b below =
    elim (cases_Bool (bytes_eq a b)) [
      | inl same ↦ absurd (true≢false (sym below ∙ (ap (λ t. is_lt (slice_cmp nat_cmp t b)) (same_text a b same) ∙ not_itself b)))
      | inr other ↦ other
    ]
  where
    equal_not_less : (o : _) → is_eq o ≡ true → is_lt o ≡ false
    equal_not_less Less e = absurd (true≢false (sym e))
    equal_not_less Equal e = refl
    equal_not_less Greater e = refl

    not_itself : (t : List ℕ) → is_lt (slice_cmp nat_cmp t t) ≡ false
    not_itself t = equal_not_less (slice_cmp nat_cmp t t) (same_key_itself t)

less : (a b : List ℕ) → is_lt (slice_cmp nat_cmp a b) ≡ true → slice_cmp nat_cmp a b ≡ Less
less a b below = so (slice_cmp nat_cmp a b) below
  where
    so : (o : _) → is_lt o ≡ true → o ≡ Less
    so Less e = refl
    so Equal e = absurd (true≢false (sym e))
    so Greater e = absurd (true≢false (sym e))

module _ {V : Type 0} where
  -- ---- keys in order

  below_at : (key : List ℕ) (es : List (List ℕ × V)) → AllByRecursion (λ other. slice_cmp nat_cmp key other ≡ Less) (keys_of es) → (j : ℕ) (d : List ℕ × V) → j < length es → slice_cmp nat_cmp key (slice_index_or es j d).0 ≡ Less
  below_at key [] all j d l = absurd (omega arith)
  below_at key (e ∷ es) all zero d l = all.0
  below_at key (e ∷ es) all (suc j) d l = below_at key es all.1 j d (omega arith)

  rises : (es : List (List ℕ × V)) → InKeyOrder es → (i j : ℕ) (d : List ℕ × V) → i < j → j < length es → slice_cmp nat_cmp (slice_index_or es i d).0 (slice_index_or es j d).0 ≡ Less
  unfolding IsStrictlySortedBy
  rises [] order i j d less within = absurd (omega arith)
  rises (e ∷ es) order zero zero d less within = absurd (omega arith)
  rises (e ∷ es) order zero (suc j) d less within = below_at e.0 es order.0 j d (omega arith)
  rises (e ∷ es) order (suc i) zero d less within = absurd (omega arith)
  rises (e ∷ es) order (suc i) (suc j) d less within = rises es order.1 i j d (omega arith) (omega arith)

  pub parted : (key : List ℕ) (es : List (List ℕ × V)) → InKeyOrder es → IsPartitionedBy (is_below key) es
  parted key es order i j d at_most within below =
      elim (cases_lt i j) [
        | inl before ↦ ap is_lt (nat_list_cmp_total.trans (slice_index_or es i d).0 (slice_index_or es j d).0 key (rises es order i j d before within) (less (slice_index_or es j d).0 key below))
        | inr behind ↦ let same : j ≡ i = omega (arith, at_most, behind) in subst (λ k. is_below key (slice_index_or es k d) ≡ true) same below
      ]

  -- ---- the keys stay

  pub value_keys : (es : List (List ℕ × V)) (key : List ℕ) (value : V) → keys_of (with_value es key value) ≡ keys_of es
  value_keys [] key value = refl
  value_keys (e ∷ es) key value = ap (λ keys. e.0 ∷ keys) (value_keys es key value)

  pub value_in_order : (es fs : List (List ℕ × V)) (key : List ℕ) (value : V) → fs ≡ with_value es key value → InKeyOrder es → InKeyOrder fs
  value_in_order es fs key value is order =
      subst (IsStrictlySortedBy (slice_cmp nat_cmp)) (sym (ap keys_of is ∙ value_keys es key value)) order

  -- ---- the value

  same_pairs : (es : List (List ℕ × V)) (key : List ℕ) (value : V) → ((i : ℕ) (d : List ℕ × V) → i < length es → bytes_eq (slice_index_or es i d).0 key ≡ false) → with_value es key value ≡ es
  same_pairs [] key value other = refl
  same_pairs (e ∷ es) key value other =
      let here : (if_key (bytes_eq e.0 key) value e.1) ≡ e.1 = cond-false _ _ _ (other 0 e (omega arith)) in
      λ i. (e.0, here i) ∷ same_pairs es key value (λ k d l. other (suc k) d (omega arith)) i
    where
      if_key : Bool → V → V → V
      if_key b x y = cond b x y

  pub not_there : (es : List (List ℕ × V)) (key : List ℕ) (value : V) (place : ℕ) → IsPlace es key place → length es ≤ place → es ≡ with_value es key value
  not_there es key value place at past =
      sym (same_pairs es key value (λ i d l. below_differs (slice_index_or es i d).0 key (at.0 i d (omega arith) (omega arith))))

  other_there : (es : List (List ℕ × V)) (key : List ℕ) (value : V) (place : ℕ) (e : List ℕ × V) → InKeyOrder es → IsPlace es key place → place < length es → e ≡ slice_index_or es place e → bytes_eq e.0 key ≡ false → es ≡ with_value es key value
  other_there es key value place e order at within is other =
      sym (same_pairs es key value (λ i d l. here i d l))
    where
      at_place : (d : List ℕ × V) → slice_index_or es place d ≡ e
      at_place d = same_index es place d e within ∙ sym is
        where
          same_index : (xs : List (List ℕ × V)) (n : ℕ) (c d : List ℕ × V) → n < length xs → slice_index_or xs n c ≡ slice_index_or xs n d
          same_index [] n c d l = absurd (omega arith)
          same_index (x ∷ xs) zero c d l = refl
          same_index (x ∷ xs) (suc n) c d l = same_index xs n c d (omega arith)

      above : (i : ℕ) (d : List ℕ × V) → place < i → i < length es → bytes_eq (slice_index_or es i d).0 key ≡ false
      above i d behind l =
          elim (cases_Bool (bytes_eq (slice_index_or es i d).0 key)) [
            | inr differs ↦ differs
            | inl same ↦ absurd (true≢false
                (sym (ap is_lt (rises es order place i d behind l))
                ∙ (ap (λ t. is_lt (slice_cmp nat_cmp (slice_index_or es place d).0 t)) (same_text _ key same) ∙ at.1 place d (omega arith) within)))
          ]

      here : (i : ℕ) (d : List ℕ × V) → i < length es → bytes_eq (slice_index_or es i d).0 key ≡ false
      here i d l =
          elim (cases_lt i place) [
            | inl before ↦ below_differs (slice_index_or es i d).0 key (at.0 i d (omega arith) before)
            | inr behind ↦ elim (cases_lt place i) [
              | inl far ↦ above i d far l
              | inr near ↦ let same : place ≡ i = omega (arith, behind, near) in
                  subst (λ k. bytes_eq (slice_index_or es k d).0 key ≡ false) same (ap (λ (p : List ℕ × V). bytes_eq p.0 key) (at_place d) ∙ other)
            ]
          ]

  set_same : (es : List (List ℕ × V)) (place : ℕ) (e : List ℕ × V) → place < length es → e ≡ slice_index_or es place e → slice_set es place e ≡ es
  set_same [] place e within is = absurd (omega arith)
  set_same (x ∷ es) zero e within is = ap (λ (y : List ℕ × V). y ∷ es) is
  set_same (x ∷ es) (suc place) e within is = ap (λ (ys : List (List ℕ × V)). x ∷ ys) (set_same es place e (omega arith) is)

  pub other_stays : (es : List (List ℕ × V)) (key : List ℕ) (value : V) (place : ℕ) (e : List ℕ × V) → InKeyOrder es → IsPlace es key place → place < length es → e ≡ slice_index_or es place e → bytes_eq e.0 key ≡ false → slice_set es place e ≡ with_value es key value
  other_stays es key value place e order at within is other = set_same es place e within is ∙ other_there es key value place e order at within is other

  pub value_there : (es : List (List ℕ × V)) (key : List ℕ) (value : V) (place : ℕ) (e : List ℕ × V) → InKeyOrder es → place < length es → e ≡ slice_index_or es place e → bytes_eq e.0 key ≡ true → slice_set es place (e.0, value) ≡ with_value es key value
  unfolding IsStrictlySortedBy
  value_there [] key value place e order within is same = absurd (omega arith)
  value_there (x ∷ es) key value zero e order within is same =
      let named : e.0 ≡ key = same_text e.0 key same in
      let behind : with_value es key value ≡ es =
      same_pairs es key value (λ i d l. greater_differs (slice_index_or es i d).0 key (subst (λ t. slice_cmp nat_cmp t (slice_index_or es i d).0 ≡ Less) (ap (λ (p : List ℕ × V). p.0) (sym is) ∙ named) (below_at x.0 es order.0 i d l))) in
      let first : (e.0, value) ≡ (x.0, cond (bytes_eq x.0 key) value x.1) =
      λ i. ((is i).0, sym (cond-true (bytes_eq x.0 key) value x.1 (ap (λ (p : List ℕ × V). bytes_eq p.0 key) (sym is) ∙ same)) i) in
      λ i. first i ∷ sym behind i
  value_there (x ∷ es) key value (suc place) e order within is same =
      let named : e.0 ≡ key = same_text e.0 key same in
      let before : slice_cmp nat_cmp x.0 key ≡ Less =
      subst (λ t. slice_cmp nat_cmp x.0 t ≡ Less) (ap (λ (p : List ℕ × V). p.0) (sym is) ∙ named) (below_at x.0 es order.0 place e (omega arith)) in
      λ i. (x.0, sym (cond-false (bytes_eq x.0 key) value x.1 (smaller_differs x.0 key before)) i) ∷ value_there es key value place e order.1 (omega arith) is same i
