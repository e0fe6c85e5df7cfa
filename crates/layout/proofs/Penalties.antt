-- What the code reckons for a place are the penalties of its targets.
use Rattle.std.proofs.Common.{refl, sym, ap, ◌∙◌, subst, arith}
use Rattle.std.proofs.lemmas.Bool.{cases_Bool, true≢false, eq-eqb, ne_eqb, false_from_ne_true}
use Rattle.std.proofs.lemmas.Option.{same_Some, none-some}
use Rattle.std.proofs.lemmas.Slice.Eq.{bytes_eq-Decides}
use Rattle.std.specs.Prelude.{◌≡◌, ℕ, zero, suc, ◌<◌, ◌≤◌, ◌+◌, ◌==◌, true, false, cond, min, List, [], ◌∷◌, Option, Some, None, map, slice_get, bytes_eq, Contains}
use mathlib.Core.Logic.{inl, inr}
use Rattle.layout_spec.proofs.Contained.{contains_here, contains_there, contains_cases, contains_none, contains_at}
use Rattle.fewest_spec.specs.Choosing.{Wish, Weights, is_best, penalty}
use Rattle.fewest_spec.proofs.Counts.{Apart}
use Rattle.fewest_spec.proofs.Weighing.{best_is, best_from}
use Rattle.layout.specs.Costs.{least_from, least_of, more_than, other_than, penalties}
use Rattle.place_nodes.specs.Nodes.{IsOwn}

-- ---- the least

least_le : (least : ℕ) (costs : List ℕ) → least_from least costs ≤ least
least_le least [] = omega arith
least_le least (c ∷ costs) = let l = least_le (min least c) costs in omega (arith, l)

module _ (f : List ℕ → ℕ) where
  least_each : (least : ℕ) (ts : List (List ℕ)) (t : List ℕ) → Contains ts t → least_from least (map f ts) ≤ f t
  least_each least [] t c = absurd (contains_none t c)
  least_each least (first ∷ ts) t c = elim (contains_cases t first ts c) [
    | inl same ↦ let l = least_le (min least (f first)) (map f ts) in let e = ap f same in omega (arith, l, e)
    | inr later ↦ least_each (min least (f first)) ts t later
  ]

  least_above : (x least : ℕ) (ts : List (List ℕ)) → x ≤ least → ((t : List ℕ) → Contains ts t → x ≤ f t) → x ≤ least_from least (map f ts)
  least_above x least [] l each = l
  least_above x least (first ∷ ts) l each =
      let e = each first (contains_here first ts) in
      least_above x (min least (f first)) ts (omega arith) (λ t c. each t (contains_there t first ts c))

  least_of_each : (ts : List (List ℕ)) (t : List ℕ) → Contains ts t → least_of (map f ts) ≤ f t
  least_of_each [] t c = absurd (contains_none t c)
  least_of_each (first ∷ ts) t c = elim (contains_cases t first ts c) [
    | inl same ↦ let l = least_le (f first) (map f ts) in let e = ap f same in omega (arith, l, e)
    | inr later ↦ least_each (f first) ts t later
  ]

  least_of_above : (x : ℕ) (ts : List (List ℕ)) (t : List ℕ) → Contains ts t → ((t : List ℕ) → Contains ts t → x ≤ f t) → x ≤ least_of (map f ts)
  least_of_above x [] t c each = absurd (contains_none t c)
  least_of_above x (first ∷ ts) t c each = least_above x (f first) ts (each first (contains_here first ts)) (λ s d. each s (contains_there s first ts d))

-- ---- the rows

module _ (wish : Wish) (weights : Weights) (place : List ℕ) where
  -- where all targets fit
  best_least : ((value : List ℕ) → wish.fits place value ≡ true) → (t : List ℕ) → Contains wish.targets t → is_best wish weights place t ≡ (weights place t == least_of (map (weights place) wish.targets))
  best_least all t c = elim (cases_Bool (is_best wish weights place t)) [
    | inl best ↦
        let b = best_is wish weights place t best in
        let l = least_of_each (weights place) wish.targets t c in
        let m = least_of_above (weights place) (weights place t) wish.targets t c (λ s d. b.least s d (all s)) in
        best ∙ sym (eq-eqb _ _ (omega (arith, l, m)))
    | inr other ↦ other ∙ sym (ne_eqb _ _ (λ e. true≢false (sym (best_from wish weights place t (record {
      fits = all t;
      least = λ s d f. let l = least_of_each (weights place) wish.targets s d in omega (arith, l, e);
    })) ∙ other)))
  ]

  more_row : ((value : List ℕ) → wish.fits place value ≡ true) → (ts : List (List ℕ)) → ((t : List ℕ) → Contains ts t → Contains wish.targets t) → more_than (least_of (map (weights place) wish.targets)) (map (weights place) ts) ≡ map (penalty wish weights place) ts
  more_row all [] inside = refl
  more_row all (t ∷ ts) inside =
      λ i. cond (sym (best_least all t (inside t (contains_here t ts))) i) 0 1 ∷ more_row all ts (λ s d. inside s (contains_there s t ts d)) i

  -- where one target fits alone
  module _ (own : List ℕ) (alone : (value : List ℕ) → wish.fits place value ≡ bytes_eq own value) where
    fits_alone : (value : List ℕ) → wish.fits place value ≡ true → own ≡ value
    fits_alone value f = (bytes_eq-Decides own value).0 (sym (alone value) ∙ f)

    own_best : is_best wish weights place own ≡ true
    own_best = best_from wish weights place own (record {
      fits = alone own ∙ (bytes_eq-Decides own own).1 refl;
      least = λ s d f. let e = ap (weights place) (fits_alone s f) in omega (arith, e);
    })

    none_best : (t : List ℕ) → (own ≡ t → ⊥) → is_best wish weights place t ≡ false
    none_best t n = false_from_ne_true (is_best wish weights place t) (λ e. n (fits_alone t (best_is wish weights place t e).fits))

    past_row : (number at : ℕ) (ts : List (List ℕ)) → at < number → (Contains ts own → ⊥) → other_than at number (map (weights place) ts) ≡ map (penalty wish weights place) ts
    past_row number at [] l n = refl
    past_row number at (t ∷ ts) l n =
        λ i. cond (here i) 0 1 ∷ past_row (number + 1) at ts (omega arith) (λ c. n (contains_there own t ts c)) i
      where
        here : (number == at) ≡ is_best wish weights place t
        here = ne_eqb number at (λ e. omega arith) ∙ sym (none_best t (λ e. n (subst (Contains (t ∷ ts)) (sym e) (contains_here t ts))))

    other_row : (number j at : ℕ) (ts : List (List ℕ)) → number + j ≡ at → slice_get ts j ≡ Some own → Apart ts → other_than at number (map (weights place) ts) ≡ map (penalty wish weights place) ts
    other_row number j at [] e s apart = absurd (none-some own s)
    other_row number zero at (t ∷ ts) e s apart =
        λ i. cond (here i) 0 1 ∷ past_row (number + 1) at ts (omega arith) (λ c. apart.0 (subst (Contains ts) (sym same) c)) i
      where
        same : t ≡ own
        same = same_Some t own s

        here : (number == at) ≡ is_best wish weights place t
        here = eq-eqb number at (omega arith) ∙ sym (subst (λ s. is_best wish weights place s ≡ true) (sym same) own_best)
    other_row number (suc j) at (t ∷ ts) e s apart =
        λ i. cond (here i) 0 1 ∷ other_row (number + 1) j at ts (omega arith) s apart.1 i
      where
        here : (number == at) ≡ is_best wish weights place t
        here = ne_eqb number at (λ f. omega arith) ∙ sym (none_best t (λ f. apart.0 (subst (Contains ts) f (contains_at ts j own s))))

  pub penalties_row : (own : Option ℕ) → IsOwn wish place own → Apart wish.targets → penalties own (map (weights place) wish.targets) ≡ map (penalty wish weights place) wish.targets
  penalties_row None all apart = more_row all wish.targets (λ t c. c)
  penalties_row (Some own) one apart = other_row one.0 one.2 0 own own wish.targets (omega arith) one.1 apart
