-- What is chosen place by place serves all, with the fewest places, and is the first that does.
use Rattle.std.proofs.Common.{refl, sym, ap, ◌∙◌, subst, arith}
use Rattle.std.proofs.lemmas.Bool.{cases_Bool, cases_lt, cond-true, cond-false, true≢false}
use Rattle.std.proofs.lemmas.Option.{none-some}
use Rattle.std.specs.FinMap.{get, insert, len, len-insert, len-empty}
use Rattle.std.specs.Cmp.Lexicographic.{slice_cmp, nat_list_cmp_total}
use Rattle.std.specs.Ordering.{nat_cmp}
use Rattle.std.specs.Prelude.{◌≡◌, ◌⊎◌, ℕ, ◌≤◌, ◌+◌, Bool, true, false, cond, List, [], ◌∷◌, Option, Some, None, unwrap_or, Contains, is_some}
use mathlib.Core.Logic.{inl, inr}
use Rattle.import_map_spec.proofs.Entries.{get_nowhere, cases_option}
use Rattle.layout_spec.proofs.Contained.{contains_here, contains_there, contains_cases, contains_none}
use Rattle.layout_spec.proofs.NestedPlaces.{above_place}
use Rattle.layout_spec.specs.Places.{above, place_above}
use Rattle.fewest_spec.specs.Choosing.{Wish, Weights, is_best, penalty, reduced, from_above, first_best, settled, chosen}
use Rattle.fewest_spec.specs.Fewest.{Choice, Held, value_by, Before, IsAhead, alone, smaller}
use Rattle.fewest_spec.specs.Wishes.{Descending}
use Rattle.fewest_spec.proofs.Orders.{never_itself, not_both}
use Rattle.fewest_spec.proofs.Totals.{Closed, closed_places, one_if, held_count, total, same_total, same_count, moved}
use Rattle.fewest_spec.proofs.Values.{from_top, from_next, value_step, same_first, same_value, get_here, get_before, from_above_put, put_cases}
use Rattle.fewest_spec.proofs.Weighing.{IsWish, IsWide, best_is, first_is, best_best, cheapest, best_again, all_best, reduced_wide, cases_among}

-- each place has a value that fits it
abbrev pub AllFit : Wish → Held → List (List ℕ) → Type 0
AllFit wish c ps = (p : List ℕ) → Contains ps p → wish.fits p (value_by c wish.asked p) ≡ true

abbrev pub SameAt : Held → Held → List (List ℕ) → Type 0
SameAt c d ps = (p : List ℕ) → Contains ps p → c p ≡ d p

-- they differ first at this one of the places, and there the one is ahead
pub record PrecedesAmong (ps : List (List ℕ)) (one other : Held) : Type 0 where
  pub place : List ℕ
  pub is_place : Contains ps place
  pub same_before : (q : List ℕ) → Contains ps q → Before q place → one q ≡ other q
  pub ahead : IsAhead (one place) (other place)

pub record IsChosen (wish : Wish) (ps : List (List ℕ)) (weights : Weights) (choice : Choice) : Type 0 where
  pub fits : AllFit wish (get choice) ps
  pub among : (p : List ℕ) → Contains ps p → Contains wish.targets (value_by (get choice) wish.asked p)
  pub within : (p t : List ℕ) → get choice p ≡ Some t → Contains ps p
  pub count : len choice ≡ held_count (get choice) ps
  pub least : (c : Held) → AllFit wish c ps → total (get choice) wish.asked weights ps ≤ total c wish.asked weights ps
  pub first :
      (c : Held) → AllFit wish c ps → total c wish.asked weights ps ≤ total (get choice) wish.asked weights ps
      → SameAt (get choice) c ps ⊎ PrecedesAmong ps (get choice) c

-- the choice at one place more
record IsSettled (wish : Wish) (weights : Weights) (place : List ℕ) (ps : List (List ℕ)) (before choice : Choice) : Type 0 where
  same : SameAt (get choice) (get before) ps
  inherited : from_above (get choice) wish.asked place ≡ from_above (get before) wish.asked place
  fits : wish.fits place (value_by (get choice) wish.asked place) ≡ true
  among : Contains wish.targets (value_by (get choice) wish.asked place)
  within : (p t : List ℕ) → get choice p ≡ Some t → (place ≡ p) ⊎ (get before p ≡ Some t)
  count : len choice ≡ one_if (get choice place) + len before
  cost : one_if (get choice place) + weights place (value_by (get choice) wish.asked place) ≡ weights place (first_best wish weights place) + penalty wish weights place (from_above (get before) wish.asked place)
  best_kept : is_best wish weights place (from_above (get before) wish.asked place) ≡ true → get choice place ≡ None
  best_put : is_best wish weights place (from_above (get before) wish.asked place) ≡ false → get choice place ≡ Some (first_best wish weights place)

module _ (wish : Wish) (is_wish : IsWish wish) (weights : Weights) (wide : IsWide wish weights) (place : List ℕ) (ps : List (List ℕ)) (down : (other : List ℕ) → Contains ps other → Before other place) (inside : (higher : List ℕ) → Contains (above place) higher → Contains ps higher) where
  abbrev best : List ℕ
  best = first_best wish weights place

  -- what a value costs at least
  at_least : (held : Option (List ℕ)) (value from : List ℕ) → value ≡ unwrap_or held from → wish.fits place value ≡ true → weights place best + penalty wish weights place from ≤ one_if held + weights place value
  at_least (Some t) value from e f =
      let l = cheapest wish is_wish weights wide place value f in
      by (is_best wish weights place from) l
    where
      by : (b : Bool) → weights place best ≤ weights place value → weights place best + cond b 0 1 ≤ 1 + weights place value
      by true l = omega arith
      by false l = omega arith
  at_least None value from e f =
      let l = cheapest wish is_wish weights wide place value f in
      by (is_best wish weights place from) refl l
    where
      by : (b : Bool) → is_best wish weights place from ≡ b → weights place best ≤ weights place value → weights place best + cond b 0 1 ≤ 0 + weights place value
      by true g l = omega arith
      by false g l = elim (cases_lt (weights place best) (weights place value)) [
        | inl less ↦ omega arith
        | inr no_more ↦ absurd (true≢false (sym (subst (λ v. is_best wish weights place v ≡ true) e (best_again wish is_wish weights wide place value f no_more)) ∙ g))
      ]

  module _ (choice : Choice) (is : IsChosen wish ps (reduced wish place weights) choice) (from_is : Contains wish.targets (from_above (get choice) wish.asked place)) where
    abbrev from : List ℕ
    from = from_above (get choice) wish.asked place

    free : get choice place ≡ None
    free = elim (cases_option (get choice place)) [
      | inl none ↦ none
      | inr some ↦ absurd (never_itself place (down place (is.within place some.0 some.1)))
    ]

    keep : is_best wish weights place from ≡ true → IsSettled wish weights place ps choice choice
    keep t =
        let value : value_by (get choice) wish.asked place ≡ from = value_step (get choice) wish.asked place ∙ ap (λ o. unwrap_or o from) free in
        let b = best_is wish weights place from t in
        let ones = ap one_if free in
        let pays : penalty wish weights place from ≡ 0 = cond-true _ 0 1 t in
        let l = cheapest wish is_wish weights wide place from b.fits in
        let m = b.least best (first_is wish is_wish weights wide place).is_item (best_best wish is_wish weights wide place).fits in
        let v = ap (weights place) value in
        record {
          same = λ p at. refl;
          inherited = refl;
          fits = ap (wish.fits place) value ∙ b.fits;
          among = subst (Contains wish.targets) (sym value) from_is;
          within = λ p u e. inr e;
          count = omega (arith, ones);
          cost = omega (arith, ones, pays, v, l, m);
          best_kept = λ _. free;
          best_put = λ f. absurd (true≢false (sym t ∙ f));
        }

    put : is_best wish weights place from ≡ false → IsSettled wish weights place ps choice (insert choice place best)
    put f =
        let at : get (insert choice place best) place ≡ Some best = get_here choice place best in
        let value : value_by (get (insert choice place best)) wish.asked place ≡ best = value_step (get (insert choice place best)) wish.asked place ∙ ap (λ o. unwrap_or o (from_above (get (insert choice place best)) wish.asked place)) at in
        let ones = ap one_if at in
        let pays : penalty wish weights place from ≡ 1 = cond-false _ 0 1 f in
        let v = ap (weights place) value in
        let size : len (insert choice place best) ≡ len choice + 1 = len-insert nat_list_cmp_total choice place best ∙ cond-false _ (len choice) (len choice + 1) (ap is_some free) in
        record {
          same = λ p c. get_before choice place best p (λ e. never_itself place (subst (λ q. Before q place) e (down p c)));
          inherited = from_above_put choice wish.asked place best;
          fits = ap (wish.fits place) value ∙ (best_best wish is_wish weights wide place).fits;
          among = subst (Contains wish.targets) (sym value) (first_is wish is_wish weights wide place).is_item;
          within = λ p u e. put_cases choice place best p u e;
          count = omega (arith, ones, size);
          cost = omega (arith, ones, pays, v);
          best_kept = λ t. absurd (true≢false (sym t ∙ f));
          best_put = λ _. at;
        }

    settle : IsSettled wish weights place ps choice (settled wish weights place choice)
    settle = elim (cases_Bool (is_best wish weights place from)) [
      | inl t ↦ subst (IsSettled wish weights place ps choice) (sym (cond-true _ choice (insert choice place best) t)) (keep t)
      | inr f ↦ subst (IsSettled wish weights place ps choice) (sym (cond-false _ choice (insert choice place best) f)) (put f)
    ]

    module _ (closed : Closed ps) (descending : Descending ps) (new : Choice) (s : IsSettled wish weights place ps choice new) where
      abbrev chosen_before : Weights
      chosen_before = reduced wish place weights

      below : (p : List ℕ) → Contains ps p → value_by (get new) wish.asked p ≡ value_by (get choice) wish.asked p
      below p c = same_value (get new) (get choice) wish.asked p (λ q d. s.same q (closed_places ps p q closed c d))

      new_total : total (get new) wish.asked weights (place ∷ ps) ≡ weights place best + (penalty wish weights place from + total (get choice) wish.asked weights ps)
      new_total =
          let rest = same_total (get new) (get choice) wish.asked weights ps s.same below in
          let cost = s.cost in
          omega (arith, rest, cost)

      -- what any other costs
      other_total : (c : Held) → AllFit wish c (place ∷ ps) → weights place best + (penalty wish weights place (from_above c wish.asked place) + total c wish.asked weights ps) ≤ total c wish.asked weights (place ∷ ps)
      other_total c fit = let l = at_least (c place) (value_by c wish.asked place) (from_above c wish.asked place) (value_step c wish.asked place) (fit place (contains_here place ps)) in omega arith

      fit_before : (c : Held) → AllFit wish c (place ∷ ps) → AllFit wish c ps
      fit_before c fit p at = fit p (contains_there p place ps at)

      new_least : (c : Held) → AllFit wish c (place ∷ ps) → total (get new) wish.asked weights (place ∷ ps) ≤ total c wish.asked weights (place ∷ ps)
      new_least c fit =
          let mine = new_total in
          let theirs = other_total c fit in
          let before = is.least c (fit_before c fit) in
          let a = moved wish weights place (get choice) ps descending inside in
          let b = moved wish weights place c ps descending inside in
          omega (arith, mine, a, b)

      -- ahead at the place, where all before it is the same
      here : (c : Held) → AllFit wish c (place ∷ ps) → total c wish.asked weights (place ∷ ps) ≤ total (get new) wish.asked weights (place ∷ ps) → SameAt (get choice) c ps → (get new place ≡ c place) ⊎ IsAhead (get new place) (c place)
      here c fit no_more same = by (is_best wish weights place from) refl (c place) refl
        where
          from_same : from_above c wish.asked place ≡ from
          from_same = ap (λ o. unwrap_or o wish.asked) (same_first c (get choice) (above place) (λ p at. sym (same p (inside p at))))

          rest_same : total c wish.asked weights ps ≡ total (get choice) wish.asked weights ps
          rest_same = same_total c (get choice) wish.asked weights ps (λ p at. sym (same p at)) (λ p at. same_value c (get choice) wish.asked p (λ q d. sym (same q (closed_places ps p q closed at d))))

          fits_here : wish.fits place (value_by c wish.asked place) ≡ true
          fits_here = fit place (contains_here place ps)

          value : (o : Option (List ℕ)) → c place ≡ o → value_by c wish.asked place ≡ unwrap_or o from
          value o e = value_step c wish.asked place ∙ (λ i. unwrap_or (e i) (from_same i))

          pays : one_if (c place) + weights place (value_by c wish.asked place) ≤ weights place best + penalty wish weights place from
          pays = let mine = new_total in let r = rest_same in omega (arith, mine, r)

          by : (b : Bool) → is_best wish weights place from ≡ b → (o : Option (List ℕ)) → c place ≡ o → (get new place ≡ c place) ⊎ IsAhead (get new place) (c place)
          by true t None e = inl (s.best_kept t ∙ sym e)
          by true t (Some u) e =
              let l = cheapest wish is_wish weights wide place (value_by c wish.asked place) fits_here in
              let ones = ap one_if e in
              let free : penalty wish weights place from ≡ 0 = cond-true _ 0 1 t in
              let p = pays in
              absurd (omega (arith, l, ones, free, p))
          by false f None e = inr (subst (λ o. IsAhead o (c place)) (sym (s.best_put f)) (subst (IsAhead (Some best)) (sym e) (alone best)))
          by false f (Some u) e =
              let is_u : value_by c wish.asked place ≡ u = value (Some u) e in
              let fits_u : wish.fits place u ≡ true = subst (λ v. wish.fits place v ≡ true) is_u fits_here in
              let ones = ap one_if e in
              let one : penalty wish weights place from ≡ 1 = cond-false _ 0 1 f in
              let p = pays in
              let w = ap (weights place) is_u in
              let best_u = best_again wish is_wish weights wide place u fits_u (omega (arith, ones, one, p, w)) in
              elim (cases_among wish.targets u) [
                | inr n ↦ absurd (true≢false (sym (all_best wish is_wish weights wide place u from n best_u from_is) ∙ f))
                | inl at ↦ elim ((first_is wish is_wish weights wide place).first u at best_u) [
                  | inl same_u ↦ inl (s.best_put f ∙ (ap Some same_u ∙ sym e))
                  | inr before ↦ inr (subst (λ o. IsAhead o (c place)) (sym (s.best_put f)) (subst (IsAhead (Some best)) (sym e) (smaller best u before)))
                ]
              ]

      new_first : (c : Held) → AllFit wish c (place ∷ ps) → total c wish.asked weights (place ∷ ps) ≤ total (get new) wish.asked weights (place ∷ ps) → SameAt (get new) c (place ∷ ps) ⊎ PrecedesAmong (place ∷ ps) (get new) c
      new_first c fit no_more =
          elim (is.first c (fit_before c fit) no_more_before) [
            | inr p ↦ inr (record {
              place = p.place;
              is_place = contains_there p.place place ps p.is_place;
              same_before = λ q at b. elim (contains_cases q place ps at) [
                | inl itself ↦ absurd (not_both q p.place b (subst (Before p.place) itself (down p.place p.is_place)))
                | inr later ↦ s.same q later ∙ p.same_before q later b
              ];
              ahead = subst (λ o. IsAhead o (c p.place)) (sym (s.same p.place p.is_place)) p.ahead;
            })
            | inl same ↦ elim (here c fit no_more same) [
              | inl itself ↦ inl (λ q at. elim (contains_cases q place ps at) [
                | inl is_place ↦ subst (λ r. get new r ≡ c r) is_place itself
                | inr later ↦ s.same q later ∙ same q later
              ])
              | inr ahead ↦ inr (record {
                place = place;
                is_place = contains_here place ps;
                same_before = λ q at b. elim (contains_cases q place ps at) [
                  | inl is_place ↦ absurd (never_itself q (subst (Before q) is_place b))
                  | inr later ↦ s.same q later ∙ same q later
                ];
                ahead = ahead;
              })
            ]
          ]
        where
          no_more_before : total c wish.asked chosen_before ps ≤ total (get choice) wish.asked chosen_before ps
          no_more_before =
              let mine = new_total in
              let theirs = other_total c fit in
              let a = moved wish weights place (get choice) ps descending inside in
              let b = moved wish weights place c ps descending inside in
              omega (arith, mine, a, b)

      is_chosen : IsChosen wish (place ∷ ps) weights new
      is_chosen = record {
        fits = λ p at. elim (contains_cases p place ps at) [
          | inl is_place ↦ subst (λ q. wish.fits q (value_by (get new) wish.asked q) ≡ true) is_place s.fits
          | inr later ↦ ap (wish.fits p) (below p later) ∙ is.fits p later
        ];
        among = λ p at. elim (contains_cases p place ps at) [
          | inl is_place ↦ subst (λ q. Contains wish.targets (value_by (get new) wish.asked q)) is_place s.among
          | inr later ↦ subst (Contains wish.targets) (sym (below p later)) (is.among p later)
        ];
        within = λ p t e. elim (s.within p t e) [
          | inl is_place ↦ subst (Contains (place ∷ ps)) is_place (contains_here place ps)
          | inr before ↦ contains_there p place ps (is.within p t before)
        ];
        count = (let n = s.count in let k = is.count in let m = same_count (get new) (get choice) ps s.same in omega (arith, n, k, m));
        least = new_least;
        first = new_first;
      }

-- ---- the whole

from_among : (wish : Wish) (is_wish : IsWish wish) (place : List ℕ) (ps : List (List ℕ)) (weights : Weights) (choice : Choice) → IsChosen wish ps weights choice → ((higher : List ℕ) → Contains (above place) higher → Contains ps higher) → Contains wish.targets (from_above (get choice) wish.asked place)
from_among wish is_wish place ps weights choice is inside = by (place_above place) refl
  where
    by : (o : Option (List ℕ)) → place_above place ≡ o → Contains wish.targets (from_above (get choice) wish.asked place)
    by None e = subst (Contains wish.targets) (sym (from_top (get choice) wish.asked place e)) is_wish.asked
    by (Some h) e = subst (Contains wish.targets) (sym (from_next (get choice) wish.asked place h e)) (is.among h (inside h (above_place place h e)))

pub chosen_is : (wish : Wish) → IsWish wish → (ps : List (List ℕ)) → Closed ps → Descending ps → (weights : Weights) → IsWide wish weights → IsChosen wish ps weights (chosen wish ps weights)
chosen_is wish is_wish [] closed down weights wide = record {
  fits = λ p at. absurd (contains_none p at);
  among = λ p at. absurd (contains_none p at);
  within = λ p t e. absurd (none-some t (sym (get_nowhere p) ∙ e));
  count = len-empty (slice_cmp nat_cmp) (List ℕ);
  least = λ c fit. omega arith;
  first = λ c fit no_more. inl (λ p at. absurd (contains_none p at));
}
chosen_is wish is_wish (place ∷ ps) closed down weights wide =
    let lower = reduced wish place weights in
    let before = chosen wish ps lower in
    let is = chosen_is wish is_wish ps closed.1 down.1 lower (reduced_wide wish is_wish weights wide place) in
    let among = from_among wish is_wish place ps lower before is closed.0 in
    is_chosen wish is_wish weights wide place ps down.0 closed.0 before is among closed.1 down.1 (settled wish weights place before) (settle wish is_wish weights wide place ps down.0 closed.0 before is among)
