-- What lists of entries answer, and that a stable sort keeps it.
use Rattle.std.proofs.Common.{◌≡◌, ℕ, zero, suc, ◌<◌, ◌≤◌, Bool, true, false, cond, List, [], ◌∷◌, ◌++◌, length, Option, Some, None, refl, sym, ap, ◌∙◌, subst, arith}
use Rattle.std.specs.Prelude.{nat_eq, reverse, not, ◌&&◌, filter, slice_index_or}
use Rattle.std.specs.declared.cmp.Ordering.{Ordering}
use Rattle.std.specs.declared.cmp.Ordering.TheVariants.{Less, Equal, Greater}
use Rattle.std.specs.Ordering.{nat_cmp, is_lt, is_eq, ordering_reverse}
use Rattle.std.specs.Cmp.Lexicographic.{slice_cmp, nat_list_cmp_total, texts_ties, pointwise}
use Rattle.std.specs.Cmp.{eq_by_cmp_equiv}
use Rattle.std.specs.List.Sorted.{ties, IsStableBy, IsPartitionedBy}
use Rattle.std.specs.FinMap.{FinMap, get, insert, empty, find, from_entries, get-from_entries, same_map, slice_cmp-IsAntisymmetric, nat_cmp-IsAntisymmetric}
use Rattle.std.proofs.lemmas.Bool.{cases_Bool, cases_lt, cond-true, cond-false, true≢false}
use Rattle.std.proofs.lemmas.List.{reverse-append}
use Rattle.std.proofs.lemmas.List.Elements.{filter_agree}
use Rattle.std.proofs.lemmas.List.Sorted.{ranks_by, sorted_far}
use mathlib.Core.Logic.{inl, inr}
use Rattle.import_map_spec.proofs.Entries.{same_key, same_key_is, cases_option}
use Rattle.map_parse.specs.TextMaps.{first_wins, last_wins, IsAscending, IsPlace}

pub no_entries : {X : Type 0} (es : List (List ℕ × X)) → es ≡ [] → last_wins es ≡ empty
unfolding last_wins
no_entries es e = ap (λ xs. from_entries (reverse xs)) e

pub one_more : {X : Type 0} (es fs : List (List ℕ × X)) (key : List ℕ) (x : X) → fs ≡ es ++ (key, x) ∷ [] → last_wins fs ≡ insert (last_wins es) key x
unfolding last_wins
one_more es fs key x e = ap (λ xs. from_entries (reverse xs)) e ∙ ap from_entries (reverse-append es ((key, x) ∷ []))

pub ruleset text_maps = (no_entries, one_more)

tied : (o p : Ordering) → p ≡ ordering_reverse o → (not (is_lt o) && not (is_lt p)) ≡ is_eq o
tied Less p e = refl
tied Equal p e = ap (λ r. not (is_lt r)) e
tied Greater p e = ap (λ r. not (is_lt r)) e

-- neither text is below the other exactly where they are the same
neither_below : (a b : List ℕ) → (not (is_lt (slice_cmp nat_cmp a b)) && not (is_lt (slice_cmp nat_cmp b a))) ≡ same_key a b
neither_below a b = tied (slice_cmp nat_cmp a b) (slice_cmp nat_cmp b a) (nat_list_cmp_total.antisymm b a)

below_is_other : (a q : List ℕ) → is_lt (slice_cmp nat_cmp a q) ≡ true → same_key q a ≡ false
below_is_other a q e = sym (neither_below q a) ∙ both (is_lt (slice_cmp nat_cmp q a)) (is_lt (slice_cmp nat_cmp a q)) e
  where
    both : (b c : Bool) → c ≡ true → (not b && not c) ≡ false
    both true c e = refl
    both false c e = ap not e

-- what is not below a text that is above another one isn't that other one
above_is_other : (a b q : List ℕ) → is_lt (slice_cmp nat_cmp b a) ≡ false → is_lt (slice_cmp nat_cmp a q) ≡ false → same_key q a ≡ false → same_key q b ≡ false
above_is_other a b q above least other =
    elim (cases_Bool (same_key q b)) [
      | inl same ↦ absurd (no (is_lt (slice_cmp nat_cmp q a)) (is_lt (slice_cmp nat_cmp a q)) (subst (λ t. is_lt (slice_cmp nat_cmp t a) ≡ false) (sym (same_key_is q b same)) above) least (neither_below q a ∙ other))
      | inr f ↦ f
    ]
  where
    no : (b c : Bool) → b ≡ false → c ≡ false → (not b && not c) ≡ false → ⊥
    no true c p r e = cc
    no false true p r e = cc
    no false false p r e = cc

module _ {X : Type 0} where
  abbrev pub below : List ℕ × X → List ℕ × X → Bool
  below x y = is_lt (slice_cmp nat_cmp x.0 y.0)

  abbrev found : List ℕ → List (List ℕ × X) → Option X
  found q es = find (slice_cmp nat_cmp) q es

  abbrev first_value : List (List ℕ × X) → Option X
  first_value [] = None
  first_value (e ∷ es) = Some e.1

  at_first : (b : Bool) (e : List ℕ × X) (o : Option X) (fs : List (List ℕ × X)) → o ≡ first_value fs → cond b (Some e.1) o ≡ first_value (cond b (e ∷ fs) fs)
  at_first true e o fs h = refl
  at_first false e o fs h = h

  found_first : (q : List ℕ) (es : List (List ℕ × X)) → found q es ≡ first_value (filter (λ e. same_key q e.0) es)
  found_first q [] = refl
  found_first q (e ∷ es) = at_first (same_key q e.0) e (found q es) (filter (λ e. same_key q e.0) es) (found_first q es)

  -- where some entry has the key, a stable sort keeps the first of those that have it
  found_alike : (xs ys : List (List ℕ × X)) → IsStableBy below xs ys → (q : List ℕ) (v : X) → found q ys ≡ found q xs
  found_alike xs ys stable q v =
      let here : (zs : List (List ℕ × X)) → filter (ties below (q, v)) zs ≡ filter (λ e. same_key q e.0) zs = λ zs. filter_agree (ties below (q, v)) (λ e. same_key q e.0) (λ e. neither_below q e.0) zs in
      found_first q ys ∙ (ap first_value (sym (here ys) ∙ (stable (q, v) ∙ here xs)) ∙ sym (found_first q xs))

  found_sorted : (xs ys : List (List ℕ × X)) → IsStableBy below xs ys → (q : List ℕ) → found q ys ≡ found q xs
  found_sorted xs ys stable q =
      elim (cases_option (found q xs)) [
        | inl none ↦ elim (cases_option (found q ys)) [
          | inl too ↦ too ∙ sym none
          | inr some ↦ found_alike xs ys stable q some.0
        ]
        | inr some ↦ found_alike xs ys stable q some.0
      ]

  pub sorted_map : (es xs ys : List (List ℕ × X)) → xs ≡ reverse es → IsStableBy below xs ys → first_wins ys ≡ last_wins es
  unfolding first_wins last_wins
  sorted_map es xs ys e stable =
      same_map nat_list_cmp_total (slice_cmp-IsAntisymmetric nat_cmp-IsAntisymmetric) _ _
      (λ q. get-from_entries nat_list_cmp_total ys q ∙ (found_sorted xs ys stable q ∙ (ap (found q) e ∙ sym (get-from_entries nat_list_cmp_total (reverse es) q))))

  -- ---- what is looked up by halves

  pub found_none : (q : List ℕ) (xs : List (List ℕ × X)) → ((k : ℕ) (d : List ℕ × X) → k < length xs → same_key q (slice_index_or xs k d).0 ≡ false) → found q xs ≡ None
  found_none q [] f = refl
  found_none q (e ∷ es) f = cond-false _ _ _ (f 0 e (omega arith)) ∙ found_none q es (λ k d l. f (suc k) d (omega arith))

  abbrev pub IsAt : List (List ℕ × X) → ℕ → List ℕ × X → Type 0
  IsAt xs i e = (i < length xs) × ((d : List ℕ × X) → e ≡ slice_index_or xs i d)

  found_at : (q : List ℕ) (xs : List (List ℕ × X)) (i : ℕ) (e : List ℕ × X) → IsAt xs i e → ((k : ℕ) (d : List ℕ × X) → k < i → same_key q (slice_index_or xs k d).0 ≡ false) → same_key q e.0 ≡ true → found q xs ≡ Some e.1
  found_at q [] i e at before same = absurd (omega (arith, at.0))
  found_at q (x ∷ xs) zero e at before same = let here : e ≡ x = at.1 e in cond-true _ _ _ (subst (λ (y : List ℕ × X). same_key q y.0 ≡ true) here same) ∙ ap (λ (y : List ℕ × X). Some y.1) (sym here)
  found_at q (x ∷ xs) (suc i) e at before same = let l = at.0 in cond-false _ _ _ (before 0 x (omega arith)) ∙ found_at q xs i e (omega arith, at.1) (λ k d m. before (suc k) d (omega arith)) same

  pub parted : (q : List ℕ) (xs : List (List ℕ × X)) → IsAscending xs → IsPartitionedBy (λ (y : List ℕ × X). is_lt (slice_cmp nat_cmp y.0 q)) xs
  parted q xs up i j d le lt e =
      let order = ranks_by nat_list_cmp_total (λ (t : List ℕ). t) in
      elim (cases_Bool (is_lt (slice_cmp nat_cmp (slice_index_or xs i d).0 q))) [
        | inl t ↦ t
        | inr f ↦ absurd (true≢false (sym e ∙ order.chain (slice_index_or xs j d).0 (slice_index_or xs i d).0 q (sorted_far below (ranks_by nat_list_cmp_total (λ (y : List ℕ × X). y.0)) xs up i j d le lt) f))
      ]

  not_below : (q : List ℕ) (xs : List (List ℕ × X)) (i : ℕ) (e : List ℕ × X) → IsAscending xs → IsAt xs i e → is_lt (slice_cmp nat_cmp e.0 q) ≡ false → (k : ℕ) (d : List ℕ × X) → i ≤ k → k < length xs → is_lt (slice_cmp nat_cmp (slice_index_or xs k d).0 q) ≡ false
  not_below q xs i e up at least k d le lt =
      elim (cases_Bool (is_lt (slice_cmp nat_cmp (slice_index_or xs k d).0 q))) [
        | inl t ↦ absurd (true≢false (sym (parted q xs up i k d le lt t) ∙ (ap (λ (y : List ℕ × X). is_lt (slice_cmp nat_cmp y.0 q)) (sym (at.1 d)) ∙ least)))
        | inr f ↦ f
      ]

  pub place_first : (q : List ℕ) (xs : List (List ℕ × X)) (i : ℕ) (e : List ℕ × X) → IsAscending xs → IsAt xs i e → is_lt (slice_cmp nat_cmp e.0 q) ≡ false → i ≡ 0 → IsPlace q xs i
  place_first q xs i e up at least start = (λ k d p l. absurd (omega (arith, start)), not_below q xs i e up at least)

  pub place_behind : (q : List ℕ) (xs : List (List ℕ × X)) (i j : ℕ) (e f : List ℕ × X) → IsAscending xs → IsAt xs i e → is_lt (slice_cmp nat_cmp e.0 q) ≡ false → i ≡ suc j → IsAt xs j f → is_lt (slice_cmp nat_cmp f.0 q) ≡ true → IsPlace q xs i
  place_behind q xs i j e f up at least next here below =
      (λ k d p l. parted q xs up k j d (omega (arith, next)) here.0 (ap (λ (y : List ℕ × X). is_lt (slice_cmp nat_cmp y.0 q)) (sym (here.1 d)) ∙ below), not_below q xs i e up at least)

  -- past the end nothing has the key
  pub nothing_at : (q : List ℕ) (xs : List (List ℕ × X)) (i : ℕ) → IsPlace q xs i → length xs ≤ i → get (first_wins xs) q ≡ None
  unfolding first_wins
  nothing_at q xs i point past =
      get-from_entries nat_list_cmp_total xs q ∙ found_none q xs (λ k d l. below_is_other _ q (point.0 k d (omega arith) (omega arith)))

  pub something_at : (q : List ℕ) (xs : List (List ℕ × X)) (i : ℕ) (e : List ℕ × X) → IsPlace q xs i → IsAt xs i e → same_key q e.0 ≡ true → get (first_wins xs) q ≡ Some e.1
  unfolding first_wins
  something_at q xs i e point at same =
      get-from_entries nat_list_cmp_total xs q ∙ found_at q xs i e at (λ k d l. below_is_other _ q (point.0 k d (omega arith) l)) same

  pub other_at : (q : List ℕ) (xs : List (List ℕ × X)) (i : ℕ) (e : List ℕ × X) → IsAscending xs → IsPlace q xs i → IsAt xs i e → same_key q e.0 ≡ false → get (first_wins xs) q ≡ None
  unfolding first_wins
  other_at q xs i e up point at other =
      get-from_entries nat_list_cmp_total xs q
      ∙ found_none q xs (λ k d l.
      elim (cases_lt k i) [
        | inl before ↦ below_is_other _ q (point.0 k d (omega arith) before)
        | inr behind ↦ let here : slice_index_or xs i d ≡ e = sym (at.1 d) in
            above_is_other (slice_index_or xs i d).0 _ q (sorted_far below (ranks_by nat_list_cmp_total (λ (y : List ℕ × X). y.0)) xs up i k d behind l) (point.1 i d (omega arith) at.0)
            (ap (λ y. same_key q y.0) here ∙ other)
      ])

  -- what the search by halves answers, where these entries are those of the map
  pub looked_nothing : (m : FinMap (slice_cmp nat_cmp) X) (q : List ℕ) (xs ys : List (List ℕ × X)) (i : ℕ) → m ≡ first_wins xs → ys ≡ xs → IsPlace q ys i → length ys ≤ i → None ≡ get m q
  looked_nothing m q xs ys i e same point past = sym (nothing_at q ys i point past) ∙ ap (λ n. get n q) (ap first_wins same ∙ sym e)

  pub looked_other : (m : FinMap (slice_cmp nat_cmp) X) (q : List ℕ) (xs ys : List (List ℕ × X)) (i : ℕ) (e : List ℕ × X) → m ≡ first_wins xs → ys ≡ xs → IsAscending ys → IsPlace q ys i → IsAt ys i e → same_key q e.0 ≡ false → None ≡ get m q
  looked_other m q xs ys i x e same up point at other = sym (other_at q ys i x up point at other) ∙ ap (λ n. get n q) (ap first_wins same ∙ sym e)

  pub looked_something : (m : FinMap (slice_cmp nat_cmp) X) (q : List ℕ) (xs ys : List (List ℕ × X)) (i : ℕ) (e : List ℕ × X) → m ≡ first_wins xs → ys ≡ xs → IsPlace q ys i → IsAt ys i e → same_key q e.0 ≡ true → Some e.1 ≡ get m q
  looked_something m q xs ys i x e same point at found = sym (something_at q ys i x point at found) ∙ ap (λ n. get n q) (ap first_wins same ∙ sym e)

-- the test of a key against what is looked for
pub tested : (b : Bool) (key text q : List ℕ) → b ≡ pointwise nat_eq text q → text ≡ key → same_key q key ≡ b
tested b key text q e f = (eq_by_cmp_equiv nat_list_cmp_total).symm q key ∙ (sym (texts_ties key q) ∙ (ap (λ t. pointwise nat_eq t q) (sym f) ∙ sym e))
