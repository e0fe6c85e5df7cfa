-- What targets cost a place, and their penalties, as they are kept in memory.
use Rattle.std.proofs.Common.{refl, sym, ap, ◌∙◌, subst, arith}
use Rattle.std.proofs.lemmas.Bool.{cases_Bool, cond-true, cond-false, eqb-true, eqb-false, eq-eqb, ne_eqb}
use Rattle.std.proofs.lemmas.List.{length-replicate}
use Rattle.std.proofs.lemmas.Option.{slice_get_past}
use Rattle.std.specs.Prelude.{◌≡◌, ◌⊎◌, ℕ, zero, suc, ◌<◌, ◌≤◌, ◌+◌, ◌-◌, ◌==◌, min, max, Bool, true, false, cond, List, [], ◌∷◌, Option, Some, None, length, take, set, get_or, replicate, slice_get}
use mathlib.Core.Logic.{inl, inr}
use Rattle.layout.specs.Choices.{first_free, free_or, choice_at}
use Rattle.layout.specs.Costs.{added, least_from, least_of, more_than, other_than, penalties}
use Rattle.layout.specs.Fits.{costs_by, alone_fits, alone_by, all_fits, AtMost, IsKept, IsAlone, own_row, penalty_by, best_row, row_by, greatest_from, best_at, fitted, fitted_from, ArePaid}

-- ---- costs

pub costs_count : (total : ℕ) (fits : List ℕ) → length (costs_by total fits) ≡ length fits
costs_count total [] = refl
costs_count total (f ∷ fs) = ap suc (costs_count total fs)

pub kept_of : (total : ℕ) (fits : List ℕ) → AtMost total fits → IsKept (length fits) total fits
kept_of total fits most = record { at_most = most; count = refl }

zeros_cost : (width : ℕ) → costs_by 0 (replicate width 0) ≡ replicate width 0
zeros_cost zero = refl
zeros_cost (suc width) = λ i. 0 ∷ zeros_cost width i

zeros_most : (total width : ℕ) → AtMost total (replicate width 0)
zeros_most total zero = tt
zeros_most total (suc width) = (omega arith, zeros_most total width)

pub free_is : (width : ℕ) (fits : List ℕ) → length fits ≡ 0 → costs_by 0 (all_fits width 0 None fits) ≡ replicate width 0
free_is width [] none = zeros_cost width
free_is width (f ∷ fs) none = absurd (omega (arith, none))

pub free_kept : (width : ℕ) (fits : List ℕ) → length fits ≡ 0 → IsKept width 0 (all_fits width 0 None fits)
free_kept width [] none = record { at_most = zeros_most 0 width; count = length-replicate width 0 }
free_kept width (f ∷ fs) none = absurd (omega (arith, none))

-- ---- the list written out

pub set_alone : (width number count : ℕ) (all : List ℕ) → all ≡ replicate width 0 → number < width → set all number count ≡ alone_fits width number count
set_alone width number count all is l = ap (λ fs. set fs number count) is ∙ by width number l
  where
    by : (width number : ℕ) → number < width → set (replicate width 0) number count ≡ alone_fits width number count
    by zero number l = absurd (omega (arith, l))
    by (suc width) zero l = refl
    by (suc width) (suc number) l = λ i. 0 ∷ by width number (omega (arith, l)) i

pub past_alone : (width number count : ℕ) (all : List ℕ) → all ≡ replicate width 0 → width ≤ number → all ≡ alone_fits width number count
past_alone width number count all is l = is ∙ by width number l
  where
    by : (width number : ℕ) → width ≤ number → replicate width 0 ≡ alone_fits width number count
    by zero number l = refl
    by (suc width) zero l = absurd (omega (arith, l))
    by (suc width) (suc number) l = λ i. 0 ∷ by width number (omega (arith, l)) i

pub set_by : (width number count : ℕ) (alone : Option ℕ) (all now : List ℕ) → now ≡ set all number count → alone ≡ Some number → all ≡ replicate width 0 → number < width → now ≡ alone_by width count alone
set_by width number count alone all now put some is l = put ∙ (set_alone width number count all is l ∙ ap (alone_by width count) (sym some))

pub past_by : (width number count : ℕ) (alone : Option ℕ) (all now : List ℕ) → now ≡ all → alone ≡ Some number → all ≡ replicate width 0 → width ≤ number → now ≡ alone_by width count alone
past_by width number count alone all now same some is l = same ∙ (past_alone width number count all is l ∙ ap (alone_by width count) (sym some))

pub none_by : (width count : ℕ) (alone : Option ℕ) (all : List ℕ) → alone ≡ None → all ≡ replicate width 0 → all ≡ alone_by width count alone
none_by width count alone all none is = is ∙ ap (alone_by width count) (sym none)

pub opened_none : (width total : ℕ) (alone : Option ℕ) (fits all : List ℕ) → length fits ≡ 0 → all ≡ alone_by width total alone → all ≡ all_fits width total alone fits
opened_none width total alone [] all none is = is
opened_none width total alone (f ∷ fs) all none is = absurd (omega (arith, none))

pub opened_some : (width total : ℕ) (alone : Option ℕ) (fits : List ℕ) → (fits ≡ [] → ⊥) → fits ≡ all_fits width total alone fits
opened_some width total alone [] some = absurd (some refl)
opened_some width total alone (f ∷ fs) some = refl

-- ---- the row of a target of its own

ones_past : (own number : ℕ) (costs : List ℕ) → own < number → other_than own number costs ≡ replicate (length costs) 1
ones_past own number [] l = refl
ones_past own number (c ∷ costs) l =
    let here : penalty_by (number == own) ≡ 1 = cond-false (number == own) 0 1 (ne_eqb number own (λ e. omega (arith, e, l))) in
    λ i. here i ∷ ones_past own (number + 1) costs (omega (arith, l)) i

own_from : (j number own : ℕ) (costs : List ℕ) → number + j ≡ own → other_than own number costs ≡ own_row (length costs) j
own_from j number own [] e = refl
own_from zero number own (c ∷ costs) e =
    let here : penalty_by (number == own) ≡ 0 = cond-true (number == own) 0 1 (eq-eqb number own (omega (arith, e))) in
    λ i. here i ∷ ones_past own (number + 1) costs (omega (arith, e)) i
own_from (suc j) number own (c ∷ costs) e =
    let here : penalty_by (number == own) ≡ 1 = cond-false (number == own) 0 1 (ne_eqb number own (λ f. omega (arith, e, f))) in
    λ i. here i ∷ own_from j (number + 1) own costs (omega (arith, e)) i

own_is : (width total own : ℕ) (fits : List ℕ) → length fits ≡ width → own_row width own ≡ other_than own 0 (costs_by total fits)
own_is width total own fits count = sym (own_from own 0 own (costs_by total fits) (omega arith) ∙ ap (λ n. own_row n own) (costs_count total fits ∙ count))

-- ---- the row of the best

least_is : (total greatest : ℕ) (fits : List ℕ) → least_from (total - greatest) (costs_by total fits) ≡ total - greatest_from greatest fits
least_is total greatest [] = refl
least_is total greatest (f ∷ fs) =
    let same : min (total - greatest) (total - f) ≡ total - max greatest f = omega arith in
    ap (λ least. least_from least (costs_by total fs)) same ∙ least_is total (max greatest f) fs

greatest_most : (total greatest : ℕ) (fits : List ℕ) → greatest ≤ total → AtMost total fits → greatest_from greatest fits ≤ total
greatest_most total greatest [] l most = l
greatest_most total greatest (f ∷ fs) l most = let m = most.0 in greatest_most total (max greatest f) fs (omega (arith, l, m)) most.1

same_test : (total f g : ℕ) → f ≤ total → g ≤ total → (f == g) ≡ ((total - f) == (total - g))
same_test total f g l m = elim (cases_Bool (f == g)) [
  | inl same ↦ let e = eqb-true f g same in same ∙ sym (eq-eqb (total - f) (total - g) (ap (λ n. total - n) e))
  | inr other ↦ let n = eqb-false f g other in other ∙ sym (ne_eqb (total - f) (total - g) (λ e. n (omega (arith, e, l, m))))
]

best_more : (total greatest : ℕ) (fits : List ℕ) → greatest ≤ total → AtMost total fits → best_row (best_at greatest fits) ≡ more_than (total - greatest) (costs_by total fits)
best_more total greatest [] l most = refl
best_more total greatest (f ∷ fs) l most = λ i. cond (same_test total f greatest most.0 l i) 0 1 ∷ best_more total greatest fs l most.1 i

best_by : (total : ℕ) (fits : List ℕ) → AtMost total fits → best_row (best_at (greatest_from 0 fits) fits) ≡ more_than (least_of (costs_by total fits)) (costs_by total fits)
best_by total [] most = refl
best_by total (f ∷ fs) most =
    let least : least_of (costs_by total (f ∷ fs)) ≡ total - greatest_from f fs = least_is total f fs in
    let first : max 0 f ≡ f = omega arith in
    ap (λ g. best_row (best_at (greatest_from g fs) (f ∷ fs))) first
    ∙ best_more total (greatest_from f fs) (f ∷ fs) (greatest_most total f fs most.0 most.1) most
    ∙ ap (λ n. more_than n (costs_by total (f ∷ fs))) (sym least)

-- one fits all places below
greatest_zeros : (greatest width : ℕ) → greatest_from greatest (replicate width 0) ≡ greatest
greatest_zeros greatest zero = refl
greatest_zeros greatest (suc width) =
    let same : max greatest 0 ≡ greatest = omega arith in
    ap (λ g. greatest_from g (replicate width 0)) same ∙ greatest_zeros greatest width

greatest_alone : (greatest width number count : ℕ) → greatest ≤ count → number < width → greatest_from greatest (alone_fits width number count) ≡ count
greatest_alone greatest zero number count l m = absurd (omega (arith, m))
greatest_alone greatest (suc width) zero count l m =
    let same : max greatest count ≡ count = omega (arith, l) in
    ap (λ g. greatest_from g (replicate width 0)) same ∙ greatest_zeros count width
greatest_alone greatest (suc width) (suc number) count l m =
    greatest_alone (max greatest 0) width number count (omega (arith, l)) (omega (arith, m))

zeros_row : (width count : ℕ) → 0 < count → replicate width 1 ≡ best_row (best_at count (replicate width 0))
zeros_row zero count l = refl
zeros_row (suc width) count l =
    let here : penalty_by (0 == count) ≡ 1 = cond-false (0 == count) 0 1 (ne_eqb 0 count (λ e. omega (arith, e, l))) in
    λ i. sym here i ∷ zeros_row width count l i

alone_row : (width number count : ℕ) → number < width → 0 < count → own_row width number ≡ best_row (best_at count (alone_fits width number count))
alone_row zero number count m l = absurd (omega (arith, m))
alone_row (suc width) zero count m l =
    let here : penalty_by (count == count) ≡ 0 = cond-true (count == count) 0 1 (eq-eqb count count refl) in
    λ i. sym here i ∷ zeros_row width count l i
alone_row (suc width) (suc number) count m l =
    let here : penalty_by (0 == count) ≡ 1 = cond-false (0 == count) 0 1 (ne_eqb 0 count (λ e. omega (arith, e, l))) in
    λ i. sym here i ∷ alone_row width number count (omega (arith, m)) l i

-- ---- what a row changes

pub fitted_past : (number : ℕ) (fits : List ℕ) → length fits ≤ number → fits ≡ fitted number fits
fitted_past number [] l = refl
fitted_past zero (f ∷ fs) l = absurd (omega (arith, l))
fitted_past (suc number) (f ∷ fs) l = λ i. f ∷ fitted_past number fs (omega (arith, l)) i

pub fitted_at : (number count more : ℕ) (fits : List ℕ) → number < length fits → count ≡ get_or fits number count → more ≡ count + 1 → set fits number more ≡ fitted number fits
fitted_at number count more [] l is e = absurd (omega (arith, l))
fitted_at zero count more (f ∷ fs) l is e = λ i. (e ∙ ap (λ n. n + 1) is) i ∷ fs
fitted_at (suc number) count more (f ∷ fs) l is e = λ i. f ∷ fitted_at number count more fs (omega (arith, l)) is e i

ones_paid : (total width : ℕ) (fits : List ℕ) → AtMost total fits → length fits ≤ width → costs_by (total + 1) fits ≡ added (costs_by total fits) (replicate width 1)
ones_paid total width [] most l = refl
ones_paid total zero (f ∷ fs) most l = absurd (omega (arith, l))
ones_paid total (suc width) (f ∷ fs) most l =
    let m = most.0 in
    let here : (total + 1) - f ≡ (total - f) + 1 = omega (arith, m) in
    λ i. here i ∷ ones_paid total width fs most.1 (omega (arith, l)) i

own_paid : (total width own : ℕ) (fits : List ℕ) → AtMost total fits → length fits ≤ width → costs_by (total + 1) (fitted own fits) ≡ added (costs_by total fits) (own_row width own)
own_paid total width own [] most l = refl
own_paid total zero own (f ∷ fs) most l = absurd (omega (arith, l))
own_paid total (suc width) zero (f ∷ fs) most l =
    let here : (total + 1) - (f + 1) ≡ (total - f) + 0 = omega arith in
    λ i. here i ∷ ones_paid total width fs most.1 (omega (arith, l)) i
own_paid total (suc width) (suc own) (f ∷ fs) most l =
    let m = most.0 in
    let here : (total + 1) - f ≡ (total - f) + 1 = omega (arith, m) in
    λ i. here i ∷ own_paid total width own fs most.1 (omega (arith, l)) i

more_most : (total : ℕ) (fits : List ℕ) → AtMost total fits → AtMost (total + 1) fits
more_most total [] most = tt
more_most total (f ∷ fs) most = let m = most.0 in (omega (arith, m), more_most total fs most.1)

own_most : (total own : ℕ) (fits : List ℕ) → AtMost total fits → AtMost (total + 1) (fitted own fits)
own_most total own [] most = tt
own_most total zero (f ∷ fs) most = let m = most.0 in (omega (arith, m), more_most total fs most.1)
own_most total (suc own) (f ∷ fs) most = let m = most.0 in (omega (arith, m), own_most total own fs most.1)

from_none : (number : ℕ) (best : List Bool) → fitted_from number best [] ≡ []
from_none number [] = refl
from_none number (true ∷ best) = from_none (number + 1) best
from_none number (false ∷ best) = from_none (number + 1) best

from_next : (number : ℕ) (best : List Bool) (f : ℕ) (fs : List ℕ) → fitted_from (suc number) best (f ∷ fs) ≡ f ∷ fitted_from number best fs
from_next number [] f fs = refl
from_next number (true ∷ best) f fs =
    let next : suc number + 1 ≡ suc (number + 1) = omega arith in
    ap (λ n. fitted_from n best (f ∷ fitted number fs)) next ∙ from_next (number + 1) best f (fitted number fs)
from_next number (false ∷ best) f fs =
    let next : suc number + 1 ≡ suc (number + 1) = omega arith in
    ap (λ n. fitted_from n best (f ∷ fs)) next ∙ from_next (number + 1) best f fs

best_paid : (total : ℕ) (best : List Bool) (fits : List ℕ) → AtMost total fits → length fits ≤ length best → costs_by (total + 1) (fitted_from 0 best fits) ≡ added (costs_by total fits) (best_row best)
best_paid total best [] most l = ap (costs_by (total + 1)) (from_none 0 best)
best_paid total [] (f ∷ fs) most l = absurd (omega (arith, l))
best_paid total (true ∷ best) (f ∷ fs) most l =
    let here : (total + 1) - (f + 1) ≡ (total - f) + 0 = omega arith in
    ap (costs_by (total + 1)) (from_next 0 best (f + 1) fs) ∙ (λ i. here i ∷ best_paid total best fs most.1 (omega (arith, l)) i)
best_paid total (false ∷ best) (f ∷ fs) most l =
    let m = most.0 in
    let here : (total + 1) - f ≡ (total - f) + 1 = omega (arith, m) in
    ap (costs_by (total + 1)) (from_next 0 best f fs) ∙ (λ i. here i ∷ best_paid total best fs most.1 (omega (arith, l)) i)

best_most : (total : ℕ) (best : List Bool) (fits : List ℕ) → AtMost total fits → AtMost (total + 1) (fitted_from 0 best fits)
best_most total best [] most = subst (AtMost (total + 1)) (sym (from_none 0 best)) tt
best_most total [] (f ∷ fs) most = more_most total (f ∷ fs) most
best_most total (true ∷ best) (f ∷ fs) most =
    let m = most.0 in subst (AtMost (total + 1)) (sym (from_next 0 best (f + 1) fs)) (omega (arith, m), best_most total best fs most.1)
best_most total (false ∷ best) (f ∷ fs) most =
    let m = most.0 in subst (AtMost (total + 1)) (sym (from_next 0 best f fs)) (omega (arith, m), best_most total best fs most.1)

-- no more than a row has
cut_added : (n : ℕ) (total : ℕ) (fits row : List ℕ) → length row ≡ n → added (costs_by total (take n fits)) row ≡ added (costs_by total fits) row
cut_added zero total [] row l = refl
cut_added zero total (f ∷ fs) [] l = refl
cut_added zero total (f ∷ fs) (p ∷ row) l = absurd (omega (arith, l))
cut_added (suc n) total [] row l = refl
cut_added (suc n) total (f ∷ fs) [] l = absurd (omega (arith, l))
cut_added (suc n) total (f ∷ fs) (p ∷ row) l = λ i. ((total - f) + p) ∷ cut_added n total fs row (omega (arith, l)) i

cut_most : (n total : ℕ) (fits : List ℕ) → AtMost total fits → AtMost total (take n fits)
cut_most zero total fits most = tt
cut_most (suc n) total [] most = tt
cut_most (suc n) total (f ∷ fs) most = (most.0, cut_most n total fs most.1)

cut_count : (n : ℕ) (fits : List ℕ) → length (take n fits) ≤ n
cut_count zero fits = omega arith
cut_count (suc n) [] = omega arith
cut_count (suc n) (f ∷ fs) = let c = cut_count n fs in omega (arith, c)

row_count : (width own : ℕ) → length (own_row width own) ≡ width
row_count zero own = refl
row_count (suc width) zero = ap suc (length-replicate width 1)
row_count (suc width) (suc own) = ap suc (row_count width own)

best_count : (best : List Bool) → length (best_row best) ≡ length best
best_count [] = refl
best_count (b ∷ best) = ap suc (best_count best)

pub pays_own : (width own : ℕ) (fits more : List ℕ) → more ≡ fitted own (take width fits) → ArePaid fits (own_row width own) more
pays_own width own fits more is = subst (ArePaid fits (own_row width own)) (sym is) (record {
  paid = λ total most.
      own_paid total width own (take width fits) (cut_most width total fits most) (cut_count width fits)
      ∙ cut_added width total fits (own_row width own) (row_count width own);
  at_most = λ total most. own_most total own (take width fits) (cut_most width total fits most);
})

pub pays_best : (best : List Bool) (fits more : List ℕ) → more ≡ fitted_from 0 best (take (length best) fits) → ArePaid fits (best_row best) more
pays_best best fits more is = subst (ArePaid fits (best_row best)) (sym is) (record {
  paid = λ total most.
      best_paid total best (take (length best) fits) (cut_most (length best) total fits most) (cut_count (length best) fits)
      ∙ cut_added (length best) total fits (best_row best) (best_count best);
  at_most = λ total most. best_most total best (take (length best) fits) (cut_most (length best) total fits most);
})

pub own_pays : (o : Option ℕ) (width own : ℕ) (best : List Bool) (fits more row : List ℕ) → row_by o width best ≡ row → o ≡ Some own → more ≡ fitted own (take width fits) → ArePaid fits row more
own_pays o width own best fits more row view is e =
    subst (λ r. ArePaid fits r more) (ap (λ p. row_by p width best) (sym is) ∙ view) (pays_own width own fits more e)

pub best_pays : (o : Option ℕ) (width : ℕ) (best : List Bool) (fits more row : List ℕ) → row_by o width best ≡ row → o ≡ None → more ≡ fitted_from 0 best (take (length best) fits) → ArePaid fits row more
best_pays o width best fits more row view is e =
    subst (λ r. ArePaid fits r more) (ap (λ p. row_by p width best) (sym is) ∙ view) (pays_best best fits more e)

-- ---- a place is charged

pub charged_kept : (total : ℕ) (all row more : List ℕ) (none : Option ℕ) (count sum : ℕ) → AtMost total all → ArePaid all row more → count ≡ length more → sum ≡ total + 1 → none ≡ None → IsKept count sum (all_fits count sum none more)
charged_kept total all row more none count sum most pays count_is sum_is none_is =
    subst (IsKept count sum) (sym (ap (λ n. all_fits n sum none more) count_is ∙ (ap (λ o. all_fits (length more) sum o more) none_is ∙ by more)))
    (subst (λ n. IsKept n sum more) (sym count_is) (subst (λ n. IsKept (length more) n more) (sym sum_is) (kept_of (total + 1) more (pays.at_most total most))))
  where
    by : (more : List ℕ) → all_fits (length more) sum None more ≡ more
    by [] = refl
    by (f ∷ fs) = refl

-- one target fits one place more
alone_none : (width number : ℕ) → replicate width 0 ≡ alone_fits width number 0
alone_none zero number = refl
alone_none (suc width) zero = refl
alone_none (suc width) (suc number) = λ i. 0 ∷ alone_none width number i

was_alone : (width total own : ℕ) (alone : Option ℕ) (fits : List ℕ) → length fits ≡ 0 → (total ≡ 0) ⊎ (alone ≡ Some own) → all_fits width total alone fits ≡ alone_fits width own total
was_alone width total own alone (f ∷ fs) none is = absurd (omega (arith, none))
was_alone width total own alone [] none (inr is) = ap (alone_by width total) is
was_alone width total own alone [] none (inl is) = ap (λ n. alone_by width n alone) is ∙ (by alone ∙ (alone_none width own ∙ ap (alone_fits width own) (sym is)))
  where
    by : (alone : Option ℕ) → alone_by width 0 alone ≡ replicate width 0
    by None = refl
    by (Some number) = sym (alone_none width number)

ones_more : (total width : ℕ) → costs_by (total + 1) (replicate width 0) ≡ added (costs_by total (replicate width 0)) (replicate width 1)
ones_more total zero = refl
ones_more total (suc width) =
    let here : (total + 1) - 0 ≡ (total - 0) + 1 = omega arith in
    λ i. here i ∷ ones_more total width i

alone_more : (width own total : ℕ) → costs_by (total + 1) (alone_fits width own (total + 1)) ≡ added (costs_by total (alone_fits width own total)) (own_row width own)
alone_more zero own total = refl
alone_more (suc width) zero total =
    let here : (total + 1) - (total + 1) ≡ (total - total) + 0 = omega arith in
    λ i. here i ∷ ones_more total width i
alone_more (suc width) (suc own) total =
    let here : (total + 1) - 0 ≡ (total - 0) + 1 = omega arith in
    λ i. here i ∷ alone_more width own total i

alone_most : (width own total : ℕ) → AtMost total (alone_fits width own total)
alone_most zero own total = tt
alone_most (suc width) zero total = (omega arith, zeros_most total width)
alone_most (suc width) (suc own) total = (omega arith, alone_most width own total)

alone_count : (width own total : ℕ) → length (alone_fits width own total) ≡ width
alone_count zero own total = refl
alone_count (suc width) zero total = ap suc (length-replicate width 0)
alone_count (suc width) (suc own) total = ap suc (alone_count width own total)

module _ (width total own sum : ℕ) (alone now : Option ℕ) (fits : List ℕ) (none : length fits ≡ 0) (now_is : now ≡ Some own) (sum_is : sum ≡ total + 1) where
  still : all_fits width sum now fits ≡ alone_fits width own (total + 1)
  still = was_alone width sum own now fits none (inr now_is) ∙ ap (alone_fits width own) sum_is

  pub stands_kept : IsKept width sum (all_fits width sum now fits)
  stands_kept =
      subst (IsKept width sum) (sym still) (subst (λ n. IsKept width n (alone_fits width own (total + 1))) (sym sum_is)
      (record { at_most = alone_most width own (total + 1); count = alone_count width own (total + 1) }))

  pub stands_is : (row : List ℕ) → (total ≡ 0) ⊎ (alone ≡ Some own) → row ≡ own_row width own → costs_by sum (all_fits width sum now fits) ≡ added (costs_by total (all_fits width total alone fits)) row
  stands_is row is row_is =
      (λ i. costs_by (sum_is i) (still i)) ∙ (alone_more width own total ∙ (λ i. added (costs_by total (sym (was_alone width total own alone fits none is) i)) (sym row_is i)))

-- ---- penalties

pub own_penalties : (o : Option ℕ) (width total own : ℕ) (fits row self : List ℕ) → costs_by total fits ≡ self → IsKept width total fits → o ≡ Some own → row ≡ own_row width own → row ≡ penalties o self
own_penalties o width total own fits row self view kept is e =
    e ∙ (own_is width total own fits kept.count ∙ ((λ i. penalties (Some own) (view i)) ∙ (λ i. penalties (sym is i) self)))

pub best_free : (total : ℕ) (all fits row : List ℕ) → all ≡ fits → row ≡ best_row (best_at (greatest_from 0 all) all) → AtMost total fits → row ≡ more_than (least_of (costs_by total fits)) (costs_by total fits)
best_free total all fits row same is most = is ∙ (ap (λ fs. best_row (best_at (greatest_from 0 fs) fs)) same ∙ best_by total fits most)

pub alone_free : (width total number : ℕ) (alone : Option ℕ) (fits row : List ℕ) → IsAlone width total alone fits number → row ≡ own_row width number → AtMost total (all_fits width total alone fits)
    → row ≡ more_than (least_of (costs_by total (all_fits width total alone fits))) (costs_by total (all_fits width total alone fits))
alone_free width total number alone fits row is e most =
    let same = was_alone width total number alone fits is.none (inr is.alone_is) in
    let greatest = greatest_alone 0 width number total (omega arith) is.within in
    e ∙ (alone_row width number total is.within is.some
    ∙ (ap (λ g. best_row (best_at g (alone_fits width number total))) (sym greatest)
    ∙ (ap (λ fs. best_row (best_at (greatest_from 0 fs) fs)) (sym same)
    ∙ best_by total (all_fits width total alone fits) most)))

-- ---- what a row chooses

first_one : (width : ℕ) → first_free (replicate width 1) ≡ width
first_one zero = refl
first_one (suc width) = let f = first_one width in omega (arith, f)

first_own : (width own : ℕ) → first_free (own_row width own) ≡ min own width
first_own zero own = omega arith
first_own (suc width) zero = omega arith
first_own (suc width) (suc own) = let f = first_own width own in omega (arith, f)

own_here : (width own : ℕ) → own < width → slice_get (own_row width own) own ≡ Some 0
own_here zero own l = absurd (omega (arith, l))
own_here (suc width) zero l = refl
own_here (suc width) (suc own) l = own_here width own (omega (arith, l))

one_at : (width i : ℕ) → i < width → slice_get {X = ℕ} (replicate width 1) i ≡ Some 1
one_at zero i l = absurd (omega (arith, l))
one_at (suc width) zero l = refl
one_at (suc width) (suc i) l = one_at width i (omega (arith, l))

own_apart : (width own i : ℕ) → i < width → (i ≡ own → ⊥) → slice_get (own_row width own) i ≡ Some 1
own_apart zero own i l n = absurd (omega (arith, l))
own_apart (suc width) zero zero l n = absurd (n refl)
own_apart (suc width) zero (suc i) l n = one_at width i (omega (arith, l))
own_apart (suc width) (suc own) zero l n = refl
own_apart (suc width) (suc own) (suc i) l n = own_apart width own i (omega (arith, l)) (λ e. n (ap suc e))

own_beyond : (width own i : ℕ) → width ≤ i → slice_get (own_row width own) i ≡ None
own_beyond zero own i l = refl
own_beyond (suc width) own zero l = absurd (omega (arith, l))
own_beyond (suc width) zero (suc i) l = ones_beyond width i (omega (arith, l))
  where
    ones_beyond : (width i : ℕ) → width ≤ i → slice_get (replicate {A = ℕ} width 1) i ≡ None
    ones_beyond zero i l = refl
    ones_beyond (suc width) zero l = absurd (omega (arith, l))
    ones_beyond (suc width) (suc i) l = ones_beyond width i (omega (arith, l))
own_beyond (suc width) (suc own) (suc i) l = own_beyond width own i (omega (arith, l))

pub none_beyond : (width own from : ℕ) → width ≤ from → None ≡ choice_at (own_row width own) from
none_beyond width own from l = sym (ap (λ o. free_or o (own_row width own)) (own_beyond width own from l))

pub none_own : (width own from : ℕ) → from < width → from ≡ own → None ≡ choice_at (own_row width own) from
none_own width own from l e = sym (ap (λ o. free_or o (own_row width own)) (ap (slice_get (own_row width own)) e ∙ own_here width own (omega (arith, l, e))))

pub other_chosen : (width own from : ℕ) → (first : ℕ) → from < width → (from ≡ own → ⊥) → first ≡ min own width → Some first ≡ choice_at (own_row width own) from
other_chosen width own from first l n e = ap Some e ∙ sym (ap (λ o. free_or o (own_row width own)) (own_apart width own from l n) ∙ ap Some (first_own width own))

pub best_beyond : (best : List Bool) (from : ℕ) → length best ≤ from → None ≡ choice_at (best_row best) from
best_beyond best from l =
    let n = best_count best in
    sym (ap (λ o. free_or o (best_row best)) (slice_get_past (best_row best) from (omega (arith, l, n))))

best_found : (best : List Bool) (from : ℕ) (b : Bool) → from < length best → b ≡ get_or best from b → slice_get (best_row best) from ≡ Some (penalty_by b)
best_found [] from b l is = absurd (omega (arith, l))
best_found (first ∷ best) zero b l is = ap (λ c. Some (penalty_by c)) (sym is)
best_found (first ∷ best) (suc from) b l is = best_found best from b (omega (arith, l)) is

pub best_stays : (best : List Bool) (from : ℕ) (b : Bool) → from < length best → b ≡ get_or best from b → b ≡ true → None ≡ choice_at (best_row best) from
best_stays best from b l is t = sym (ap (λ o. free_or o (best_row best)) (best_found best from b l is ∙ ap (λ c. Some (penalty_by c)) t))

pub best_changes : (best : List Bool) (from first : ℕ) (b : Bool) → from < length best → b ≡ get_or best from b → b ≡ false → first ≡ first_free (best_row best) → Some first ≡ choice_at (best_row best) from
best_changes best from first b l is f e = ap Some e ∙ sym (ap (λ o. free_or o (best_row best)) (best_found best from b l is ∙ ap (λ c. Some (penalty_by c)) f))
