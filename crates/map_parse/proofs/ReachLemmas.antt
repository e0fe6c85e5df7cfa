-- How far the keys of a sorted list go with a text.
use Rattle.std.proofs.Common.{◌≡◌, ℕ, zero, suc, ◌<◌, ◌≤◌, true, false, List, [], ◌∷◌, length, take, None, refl, sym, ap, ◌∙◌, subst, arith}
use Rattle.std.specs.Prelude.{slice_index_or}
use Rattle.std.specs.declared.cmp.Ordering.TheVariants.{Less, Equal, Greater}
use Rattle.std.specs.declared.cmp.Ordering.{Ordering}
use Rattle.std.specs.Ordering.{nat_cmp, is_lt, is_le, is_gt, ordering_then, ordering_reverse}
use Rattle.std.specs.Cmp.{upto, nat_cmp_total}
use Rattle.std.proofs.lemmas.Cmp.{tied_itself}
use Rattle.std.specs.Cmp.Lexicographic.{slice_cmp, nat_list_cmp_total}
use Rattle.std.specs.List.Sorted.{IsPartitionPoint, IsPartitionedBy}
use Rattle.std.specs.FinMap.{FinMap, get, get-from_entries, nat_cmp-IsAntisymmetric}
use Rattle.std.proofs.lemmas.Bool.{cases_Bool, cases_lt, true≢false}
use Rattle.std.proofs.lemmas.List.Sorted.{ranks_by, sorted_far}
use mathlib.Core.Logic.{inl, inr}
use Rattle.import_map_spec.proofs.Entries.{same_key, same_key_is}
use Rattle.map_parse.specs.TextMaps.{first_wins, IsAscending}
use Rattle.map_parse.proofs.TextMapLemmas.{below, found_none, IsAt}

-- what stands between a front of a text and the text begins with that front
front_between : (n : ℕ) (f t : List ℕ) → n ≤ length t → is_lt (slice_cmp nat_cmp f (take n t)) ≡ false → is_le (slice_cmp nat_cmp f t) ≡ true → take n f ≡ take n t
front_between zero f t l p q = refl
front_between (suc n) f [] l p q = absurd (omega (arith, l))
front_between (suc n) [] (b ∷ t) l p q = absurd (true≢false p)
front_between (suc n) (a ∷ f) (b ∷ t) l p q =
    elim (nat_cmp a b) as (λ r. nat_cmp a b ≡ r → is_lt (ordering_then r (slice_cmp nat_cmp f (take n t))) ≡ false → is_le (ordering_then r (slice_cmp nat_cmp f t)) ≡ true → a ∷ take n f ≡ b ∷ take n t) [
      | Less ↦ λ e p q. absurd (true≢false p)
      | Equal ↦ λ e p q i. nat_cmp-IsAntisymmetric a b e i ∷ front_between n f t (omega (arith, l)) p q i
      | Greater ↦ λ e p q. absurd (true≢false (sym q))
    ] refl p q

-- a front of a text isn't above it
front_below : (n : ℕ) (t : List ℕ) → is_le (slice_cmp nat_cmp (take n t) t) ≡ true
front_below zero [] = refl
front_below zero (b ∷ t) = refl
front_below (suc n) [] = refl
front_below (suc n) (b ∷ t) = ap (λ o. is_le (ordering_then o (slice_cmp nat_cmp (take n t) t))) (tied_itself nat_cmp_total b) ∙ front_below n t

turned : (o : Ordering) → is_gt (ordering_reverse o) ≡ is_lt o
turned Less = refl
turned Equal = refl
turned Greater = refl

not_above : (o : Ordering) → is_gt o ≡ false → is_le o ≡ true
not_above Less e = refl
not_above Equal e = refl
not_above Greater e = sym e

above_not : (o : Ordering) → is_le o ≡ true → is_gt o ≡ false
above_not Less e = refl
above_not Equal e = refl
above_not Greater e = sym e

moved : (a b p q : List ℕ) → a ≡ b → q ≡ p → is_lt (slice_cmp nat_cmp a p) ≡ false → is_lt (slice_cmp nat_cmp b q) ≡ false
moved a b p q e f o = (λ i. is_lt (slice_cmp nat_cmp (sym e i) (f i))) ∙ o

module _ {X : Type 0} where
  abbrev pub IsReach : List ℕ → List (List ℕ × X) → ℕ → Type 0
  IsReach t xs i = IsPartitionPoint (λ (y : List ℕ × X). is_le (slice_cmp nat_cmp y.0 t) ≡ true) (λ (y : List ℕ × X). is_le (slice_cmp nat_cmp y.0 t) ≡ false) xs i

  other_above : (t : List ℕ) (xs : List (List ℕ × X)) (i n : ℕ) → IsReach t xs i → (k : ℕ) (d : List ℕ × X) → i ≤ k → k < length xs → same_key (take n t) (slice_index_or xs k d).0 ≡ false
  other_above t xs i n point k d le lt =
      elim (cases_Bool (same_key (take n t) (slice_index_or xs k d).0)) [
        | inl same ↦ absurd (true≢false (sym (subst (λ s. is_le (slice_cmp nat_cmp s t) ≡ true) (same_key_is _ _ same) (front_below n t)) ∙ point.1 k d le lt))
        | inr f ↦ f
      ]

  none_in : (t : List ℕ) (xs : List (List ℕ × X)) (i n : ℕ) → i ≡ 0 → IsReach t xs i → get (first_wins xs) (take n t) ≡ None
  unfolding first_wins
  none_in t xs i n start point =
      get-from_entries nat_list_cmp_total xs (take n t) ∙ found_none (take n t) xs (λ k d l. other_above t xs i n point k d (omega (arith, start)) l)

  none_past :
      (t : List ℕ) (xs : List (List ℕ × X)) (i last c : ℕ) (e : List ℕ × X) → i ≡ suc last → IsAscending xs → IsReach t xs i → IsAt xs last e
      → ((n : ℕ) → n ≤ length t → take n e.0 ≡ take n t → n ≤ c) → (n : ℕ) → c < n → n ≤ length t → get (first_wins xs) (take n t) ≡ None
  unfolding first_wins
  none_past t xs i last c e is up point at longest n more within =
      get-from_entries nat_list_cmp_total xs (take n t)
      ∙ found_none (take n t) xs (λ k d l.
      elim (cases_lt k i) [
        | inl before ↦ elim (cases_Bool (same_key (take n t) (slice_index_or xs k d).0)) [
          | inl same ↦
              let here : slice_index_or xs last d ≡ e = sym (at.1 d) in
              let order = sorted_far below (ranks_by nat_list_cmp_total (λ (y : List ℕ × X). y.0)) xs up k last d (omega arith) at.0 in
              let least : is_lt (slice_cmp nat_cmp e.0 (take n t)) ≡ false = moved _ _ _ _ (ap (λ (y : List ℕ × X). y.0) here) (same_key_is (take n t) (slice_index_or xs k d).0 same) order in
              let most : is_le (slice_cmp nat_cmp e.0 t) ≡ true = subst (λ (y : List ℕ × X). is_le (slice_cmp nat_cmp y.0 t) ≡ true) here (point.0 last d (omega arith) (omega arith)) in
              let short = longest n within (front_between n e.0 t within least most) in
              absurd (omega arith)
          | inr f ↦ f
        ]
        | inr behind ↦ other_above t xs i n point k d behind l
      ])

  -- the same, where these entries are those of the map
  pub none_at_all :
      (m : FinMap (slice_cmp nat_cmp) X) (t : List ℕ) (xs ys : List (List ℕ × X)) (i n : ℕ) → m ≡ first_wins xs → ys ≡ xs → i ≡ 0 → IsReach t ys i → get m (take n t) ≡ None
  none_at_all m t xs ys i n e same start point = ap (λ m. get m (take n t)) (e ∙ sym (ap first_wins same)) ∙ none_in t ys i n start point

  pub none_beyond :
      (m : FinMap (slice_cmp nat_cmp) X) (t : List ℕ) (xs ys : List (List ℕ × X)) (i last c : ℕ) (e : List ℕ × X) → m ≡ first_wins xs → ys ≡ xs → i ≡ suc last → IsAscending ys → IsReach t ys i → IsAt ys last e
      → (one other : List ℕ) → one ≡ t → other ≡ e.0 → ((n : ℕ) → n ≤ length one → take n other ≡ take n one → n ≤ c) → (n : ℕ) → c < n → n ≤ length t → get m (take n t) ≡ None
  none_beyond m t xs ys i last c x e same is up point at one other text key longest n more within =
      ap (λ m. get m (take n t)) (e ∙ sym (ap first_wins same))
      ∙ none_past t ys i last c x is up point at (λ n within alike. longest n (let l : length one ≡ length t = ap length text in omega arith) (ap (take n) key ∙ (alike ∙ ap (take n) (sym text)))) n more within

  pub parted_below : (t : List ℕ) (xs : List (List ℕ × X)) → IsAscending xs → IsPartitionedBy (λ (y : List ℕ × X). is_le (slice_cmp nat_cmp y.0 t)) xs
  parted_below t xs up i j d le lt e =
      at_most (slice_index_or xs i d).0 (slice_index_or xs j d).0 t (sorted_far below (ranks_by nat_list_cmp_total (λ (y : List ℕ × X). y.0)) xs up i j d le lt) e
    where
      at_most : (a b q : List ℕ) → is_lt (slice_cmp nat_cmp b a) ≡ false → is_le (slice_cmp nat_cmp b q) ≡ true → is_le (slice_cmp nat_cmp a q) ≡ true
      at_most a b q p e = not_above (slice_cmp nat_cmp a q) (upto nat_list_cmp_total a b q (ap is_gt (nat_list_cmp_total.antisymm a b) ∙ (turned (slice_cmp nat_cmp b a) ∙ p)) (above_not (slice_cmp nat_cmp b q) e))
