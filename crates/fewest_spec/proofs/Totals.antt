-- What a choice costs at places of which each that is above one of them stands behind it.
use Rattle.std.proofs.Common.{refl, sym, ap, ◌∙◌, subst, arith}
use Rattle.std.proofs.lemmas.Bool.{cases_Bool, cond-true, cond-false}
use Rattle.std.proofs.lemmas.Slice.Eq.{bytes_eq-Decides}
use Rattle.std.specs.Prelude.{◌≡◌, ℕ, ◌+◌, false, cond, List, [], ◌∷◌, Option, Some, None, Contains, bytes_eq, ⊤}
use mathlib.Core.Logic.{inl, inr}
use Rattle.layout_spec.proofs.Contained.{contains_here, contains_there, contains_cases, contains_none}
use Rattle.layout_spec.proofs.NestedPlaces.{above_place}
use Rattle.layout_spec.specs.Places.{places, above, place_above}
use Rattle.fewest_spec.specs.Choosing.{Wish, Weights, penalty, reduced, from_above, is_above_at}
use Rattle.fewest_spec.specs.Fewest.{Held, value_by, Before}
use Rattle.fewest_spec.specs.Wishes.{Descending}
use Rattle.fewest_spec.proofs.Orders.{never_itself}
use Rattle.fewest_spec.proofs.Values.{from_top, from_next}

-- what is above a place stands behind it
abbrev pub Closed : List (List ℕ) → Type 0
Closed [] = ⊤
Closed (place ∷ more) = ((higher : List ℕ) → Contains (above place) higher → Contains more higher) × Closed more

pub closed_places : (ps : List (List ℕ)) (p q : List ℕ) → Closed ps → Contains ps p → Contains (places p) q → Contains ps q
closed_places [] p q closed c d = absurd (contains_none p c)
closed_places (first ∷ ps) p q closed c d = elim (contains_cases p first ps c) [
  | inr later ↦ contains_there q first ps (closed_places ps p q closed.1 later d)
  | inl same ↦ elim (contains_cases q p (above p) d) [
    | inl itself ↦ subst (Contains (first ∷ ps)) (same ∙ itself) (contains_here first ps)
    | inr higher ↦ contains_there q first ps (closed.0 q (subst (λ r. Contains (above r) q) (sym same) higher))
  ]
]

abbrev pub one_if : Option (List ℕ) → ℕ
one_if None = 0
one_if (Some t) = 1

abbrev pub held_count : Held → List (List ℕ) → ℕ
held_count c [] = 0
held_count c (p ∷ ps) = one_if (c p) + held_count c ps

abbrev pub total : Held → List ℕ → Weights → List (List ℕ) → ℕ
total c asked weights [] = 0
total c asked weights (p ∷ ps) = one_if (c p) + weights p (value_by c asked p) + total c asked weights ps

pub same_total : (c d : Held) (asked : List ℕ) (weights : Weights) (ps : List (List ℕ)) → ((p : List ℕ) → Contains ps p → c p ≡ d p) → ((p : List ℕ) → Contains ps p → value_by c asked p ≡ value_by d asked p) → total c asked weights ps ≡ total d asked weights ps
same_total c d asked weights [] same values = refl
same_total c d asked weights (p ∷ ps) same values =
    λ i. one_if (same p (contains_here p ps) i) + weights p (values p (contains_here p ps) i) + same_total c d asked weights ps (λ q at. same q (contains_there q p ps at)) (λ q at. values q (contains_there q p ps at)) i

pub same_count : (c d : Held) (ps : List (List ℕ)) → ((p : List ℕ) → Contains ps p → c p ≡ d p) → held_count c ps ≡ held_count d ps
same_count c d [] same = refl
same_count c d (p ∷ ps) same = λ i. one_if (same p (contains_here p ps) i) + same_count c d ps (λ q at. same q (contains_there q p ps at)) i

-- ---- the place above a settled one pays for it

module _ (wish : Wish) (weights : Weights) (place : List ℕ) (c : Held) where
  abbrev pay : List ℕ → ℕ
  pay value = penalty wish weights place value

  nothing_added : (h : List ℕ) (ps : List (List ℕ)) → place_above place ≡ Some h → (Contains ps h → ⊥) → total c wish.asked (reduced wish place weights) ps ≡ total c wish.asked weights ps
  unfolding reduced
  nothing_added h [] e apart = refl
  nothing_added h (p ∷ ps) e apart =
      let rest = nothing_added h ps e (λ at. apart (contains_there h p ps at)) in
      let away : is_above_at (place_above place) p ≡ false = ap (λ o. is_above_at o p) e ∙ other in
      let here = cond-false _ (pay (value_by c wish.asked p)) 0 away in
      omega (arith, rest, here)
    where
      other : bytes_eq h p ≡ false
      other = elim (cases_Bool (bytes_eq h p)) [
        | inr f ↦ f
        | inl t ↦ absurd (apart (subst (Contains (p ∷ ps)) (sym ((bytes_eq-Decides h p).0 t)) (contains_here p ps)))
      ]

  pub paid_above : (h : List ℕ) (ps : List (List ℕ)) → place_above place ≡ Some h → Descending ps → Contains ps h → total c wish.asked (reduced wish place weights) ps ≡ total c wish.asked weights ps + pay (value_by c wish.asked h)
  unfolding reduced
  paid_above h [] e down at = absurd (contains_none h at)
  paid_above h (p ∷ ps) e down at = elim (contains_cases h p ps at) [
    | inl same ↦
        let rest = nothing_added h ps e (λ later. never_itself h (subst (Before h) same (down.0 h later))) in
        let here : cond (is_above_at (place_above place) p) (pay (value_by c wish.asked p)) 0 ≡ pay (value_by c wish.asked h) =
        cond-true _ (pay (value_by c wish.asked p)) 0 (ap (λ o. is_above_at o p) e ∙ (bytes_eq-Decides h p).1 (sym same)) ∙ ap (λ q. pay (value_by c wish.asked q)) same in
        omega (arith, rest, here)
    | inr later ↦
        let rest = paid_above h ps e down.1 later in
        let here : cond (is_above_at (place_above place) p) (pay (value_by c wish.asked p)) 0 ≡ 0 =
        cond-false _ (pay (value_by c wish.asked p)) 0 (ap (λ o. is_above_at o p) e ∙ other (down.0 h later)) in
        omega (arith, rest, here)
  ]
    where
      other : Before h p → bytes_eq h p ≡ false
      other b = elim (cases_Bool (bytes_eq h p)) [
        | inr f ↦ f
        | inl t ↦ absurd (never_itself h (subst (Before h) (sym ((bytes_eq-Decides h p).0 t)) b))
      ]

  pub none_above : (ps : List (List ℕ)) → place_above place ≡ None → total c wish.asked (reduced wish place weights) ps ≡ total c wish.asked weights ps
  unfolding reduced
  none_above [] e = refl
  none_above (p ∷ ps) e =
      let rest = none_above ps e in
      let here = cond-false _ (pay (value_by c wish.asked p)) 0 (ap (λ o. is_above_at o p) e) in
      omega (arith, rest, here)

-- what the top level pays itself
abbrev pub top_pay : Wish → Weights → List ℕ → Option (List ℕ) → ℕ
top_pay wish weights place None = penalty wish weights place wish.asked
top_pay wish weights place (Some higher) = 0

pub moved : (wish : Wish) (weights : Weights) (place : List ℕ) (c : Held) (ps : List (List ℕ)) → Descending ps → ((higher : List ℕ) → Contains (above place) higher → Contains ps higher)
    → total c wish.asked (reduced wish place weights) ps + top_pay wish weights place (place_above place) ≡ total c wish.asked weights ps + penalty wish weights place (from_above c wish.asked place)
moved wish weights place c ps down inside = by (place_above place) refl
  where
    by : (o : Option (List ℕ)) → place_above place ≡ o → total c wish.asked (reduced wish place weights) ps + top_pay wish weights place o ≡ total c wish.asked weights ps + penalty wish weights place (from_above c wish.asked place)
    by None e =
        let same = none_above wish weights place c ps e in
        let pays = ap (penalty wish weights place) (from_top c wish.asked place e) in
        omega (arith, same, pays)
    by (Some h) e =
        let same = paid_above wish weights place c h ps e down (inside h (above_place place h e)) in
        let pays = ap (penalty wish weights place) (from_next c wish.asked place h e) in
        omega (arith, same, pays)
