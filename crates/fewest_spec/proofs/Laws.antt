-- One choice, one layout; it captures nothing, and each of its mappings is of a need.
use Rattle.std.proofs.Common.{refl, sym, ap, ◌∙◌, subst, arith}
use Rattle.std.proofs.lemmas.Bool.{cases_Bool, and_parts, and_from, or_left, or_right, true≢false}
use Rattle.std.proofs.lemmas.Option.{same_Some, none-some}
use Rattle.std.proofs.lemmas.Slice.Eq.{bytes_eq-Decides}
use Rattle.std.specs.Cmp.Lexicographic.{nat_list_cmp_total}
use Rattle.std.specs.FinMap.{get, remove, get-remove}
use Rattle.std.specs.List.{list_any}
use Rattle.std.specs.Option.{option_or}
use Rattle.std.specs.Prelude.{◌≡◌, ℕ, Bool, true, false, ◌&&◌, ◌||◌, cond, List, [], ◌∷◌, Option, Some, None, option_map, unwrap_or, bytes_eq, Contains}
use mathlib.Core.Logic.{inl, inr}
use Rattle.import_map_spec.proofs.Entries.{same_key, same_key_is}
use Rattle.import_map_spec.specs.ParsedMap.{ParsedMap}
use Rattle.layout_spec.proofs.Contained.{contains_here, contains_there, contains_cases, contains_none}
use Rattle.layout_spec.proofs.OneMap.{one_map}
use Rattle.layout_spec.specs.Places.{places}
use Rattle.layout_spec.specs.Serving.{held, first_of, IsOf}
use Rattle.layout_spec.specs.declared.Need.{Need}
use Rattle.fewest_spec.specs.Fewest.{Choice, Held, Before, Serves, IsAhead, alone, smaller, Precedes, IsFewest}
use Rattle.fewest_spec.specs.Laws.{OneFewest, OneFewestLayout, FewestServes}
use Rattle.fewest_spec.proofs.Counts.{size_without}
use Rattle.fewest_spec.proofs.Orders.{never_itself, not_both, Order, order_of, is_before, is_same, is_behind}

-- ---- what a test finds in a list

module _ {A : Type 0} (test : A → Bool) where
  any_at : (x : A) (xs : List A) → Contains xs x → test x ≡ true → list_any test xs ≡ true
  any_at x [] c e = absurd (contains_none x c)
  any_at x (first ∷ xs) c e =
      elim (contains_cases x first xs c) [
        | inl same ↦ or_left (test first) (list_any test xs) (subst (λ y. test y ≡ true) (sym same) e)
        | inr later ↦ or_right (test first) (list_any test xs) (any_at x xs later e)
      ]

  record Found (xs : List A) : Type 0 where
    pub item : A
    pub is_item : Contains xs item
    pub passes : test item ≡ true

  any_found : (xs : List A) → list_any test xs ≡ true → Found xs
  any_found [] e = absurd (true≢false (sym e))
  any_found (first ∷ xs) e =
      elim (cases_Bool (test first)) [
        | inl t ↦ record { item = first; is_item = contains_here first xs; passes = t }
        | inr f ↦ let later = any_found xs (rest_of (test first) (list_any test xs) f e) in record { item = later.item; is_item = contains_there later.item first xs later.is_item; passes = later.passes }
      ]
    where
      rest_of : (a b : Bool) → a ≡ false → (a || b) ≡ true → b ≡ true
      rest_of true b f e = absurd (true≢false f)
      rest_of false b f e = e

-- ---- one

never_ahead : {a b : Option (List ℕ)} → a ≡ b → IsAhead a b → ⊥
never_ahead e (alone t) = none-some t (sym e)
never_ahead e (smaller t u b) = never_itself u (subst (λ v. Before v u) (same_Some t u e) b)

not_each : {a b c : Option (List ℕ)} → IsAhead a b → IsAhead c a → b ≡ c → ⊥
not_each (alone t) p e = behind_none p (sym e)
  where
    behind_none : {b : Option (List ℕ)} → IsAhead b (Some t) → b ≡ None → ⊥
    behind_none (smaller u _ b) f = none-some u (sym f)
not_each (smaller t u b) p e = both p (sym e)
  where
    both : {b : Option (List ℕ)} → IsAhead b (Some t) → b ≡ Some u → ⊥
    both (smaller v _ c) f = not_both t u b (subst (λ w. Before w t) (same_Some v u f) c)

not_both_first : (c d : Held) → Precedes c d → Precedes d c → ⊥
not_both_first c d p q = by (order_of p.place q.place)
  where
    by : Order p.place q.place → ⊥
    by (is_before b) = never_ahead (sym (q.same_before p.place b)) p.ahead
    by (is_behind b) = never_ahead (sym (p.same_before q.place b)) q.ahead
    by (is_same e) = not_each p.ahead (subst (λ r. IsAhead (d r) (c r)) (sym e) q.ahead) refl

pub one_fewest : OneFewest
one_fewest needs asked c d one other =
    let l = one.fewest d other.serves in
    let m = other.fewest c one.serves in
    elim (one.first d other.serves (omega (arith, l, m))) [
      | inl same ↦ same
      | inr p ↦ elim (other.first c one.serves (omega (arith, l, m))) [
        | inl same ↦ sym same
        | inr q ↦ absurd (not_both_first (get c) (get d) p q)
      ]
    ]

pub one_fewest_layout : OneFewestLayout
one_fewest_layout needs m n a b =
    one_map m n a.tidy b.tidy
    (λ asked place. let one = a.choices asked in let other = b.choices asked in one.2 place ∙ ((λ i. option_map Some (get (one_fewest needs asked one.0 other.0 one.1 other.1 i) place)) ∙ sym (other.2 place)))
    (a.no_digests ∙ sym b.no_digests)

-- ---- nothing is captured

walks : (m : ParsedMap) (choice : Choice) (asked : List ℕ) → ((place : List ℕ) → held m asked place ≡ option_map Some (get choice place)) → (ps : List (List ℕ)) → first_of (held m asked) ps ≡ option_map Some (first_of (get choice) ps)
walks m choice asked same [] = refl
walks m choice asked same (p ∷ ps) = (λ i. option_or (same p i) (walks m choice asked same ps i)) ∙ apart (get choice p)
  where
    apart : (o : Option (List ℕ)) → option_or (option_map Some o) (option_map Some (first_of (get choice) ps)) ≡ option_map Some (option_or o (first_of (get choice) ps))
    apart None = refl
    apart (Some x) = refl

or_given : (o : Option (List ℕ)) (asked : List ℕ) → unwrap_or (option_map Some o) (Some asked) ≡ Some (unwrap_or o asked)
or_given None asked = refl
or_given (Some x) asked = refl

-- ---- each mapping is of a need: what no need uses could be left out

-- the first of these places that the choice holds is this one
abbrev decided : Option (List ℕ) → Bool → Bool → Bool
decided None here later = later
decided (Some x) here later = here

abbrev decides : Choice → List ℕ → List (List ℕ) → Bool
decides choice place [] = false
decides choice place (q ∷ more) = decided (get choice q) (same_key q place) (decides choice place more)

same_without : (choice : Choice) (place : List ℕ) (ps : List (List ℕ)) → decides choice place ps ≡ false → first_of (get (remove choice place)) ps ≡ first_of (get choice) ps
same_without choice place [] e = refl
same_without choice place (q ∷ ps) e =
    ap (λ o. option_or o (first_of (get (remove choice place)) ps)) (get-remove nat_list_cmp_total choice place q) ∙ by (get choice q) (same_key q place) (same_without choice place ps) e
  where
    by : (o : Option (List ℕ)) (b : Bool) → (decides choice place ps ≡ false → first_of (get (remove choice place)) ps ≡ first_of (get choice) ps) → decided o b (decides choice place ps) ≡ false → option_or (cond b None o) (first_of (get (remove choice place)) ps) ≡ option_or o (first_of (get choice) ps)
    by None true inner f = inner f
    by None false inner f = inner f
    by (Some x) true inner f = absurd (true≢false f)
    by (Some x) false inner f = refl

record Decided (choice : Choice) (place : List ℕ) (ps : List (List ℕ)) : Type 0 where
  pub at : Contains ps place
  pub first : first_of (get choice) ps ≡ get choice place

decided_is : (choice : Choice) (place : List ℕ) (ps : List (List ℕ)) → decides choice place ps ≡ true → Decided choice place ps
decided_is choice place [] e = absurd (true≢false (sym e))
decided_is choice place (q ∷ ps) e = by (get choice q) refl (decided_is choice place ps)
  where
    by : (o : Option (List ℕ)) → get choice q ≡ o → (decides choice place ps ≡ true → Decided choice place ps) → Decided choice place (q ∷ ps)
    by None f inner =
        let later = inner (ap (λ o. decided o (same_key q place) (decides choice place ps)) (sym f) ∙ e) in
        record { at = contains_there place q ps later.at; first = ap (λ o. option_or o (first_of (get choice) ps)) f ∙ later.first }
    by (Some x) f inner =
        let is : q ≡ place = same_key_is q place (ap (λ o. decided o (same_key q place) (decides choice place ps)) (sym f) ∙ e) in
        record { at = subst (Contains (q ∷ ps)) is (contains_here q ps); first = ap (λ o. option_or o (first_of (get choice) ps)) f ∙ (sym f ∙ ap (get choice) is) }

module _ (needs : List Need) (asked : List ℕ) (choice : Choice) (is : IsFewest needs asked choice) where
  abbrev uses : List ℕ → Need → Bool
  uses place need = bytes_eq need.asked asked && decides choice place (places need.referrer)

  unused : (place target : List ℕ) → get choice place ≡ Some target → list_any (uses place) needs ≡ false → ⊥
  unused place target e none =
      let serves : Serves needs asked (get (remove choice place)) = λ need c same. ap (λ o. unwrap_or o asked) (same_without choice place (places need.referrer) (not_decided need c same)) ∙ is.serves need c same in
      let least = is.fewest (remove choice place) serves in
      let smaller = size_without choice place target e in
      absurd (omega (arith, least, smaller))
    where
      not_decided : (need : Need) → Contains needs need → need.asked ≡ asked → decides choice place (places need.referrer) ≡ false
      not_decided need c same = elim (cases_Bool (decides choice place (places need.referrer))) [
        | inr f ↦ f
        | inl t ↦ absurd (true≢false (sym (any_at (uses place) need needs c (and_from _ _ ((bytes_eq-Decides need.asked asked).1 same) t)) ∙ none))
      ]

  pub of_a_need : (place target : List ℕ) → get choice place ≡ Some target → (need : Need) × IsOf needs place asked (Some target) need
  of_a_need place target e =
      elim (cases_Bool (list_any (uses place) needs)) [
        | inr none ↦ absurd (unused place target e none)
        | inl some ↦
            let found = any_found (uses place) needs some in
            let parts = and_parts _ _ found.passes in
            let asked_is = (bytes_eq-Decides found.item.asked asked).0 parts.0 in
            let d = decided_is choice place (places found.item.referrer) parts.1 in
            let target_is : target ≡ found.item.target = sym (ap (λ o. unwrap_or o asked) (d.first ∙ e)) ∙ is.serves found.item found.is_item asked_is in
            (found.item, record { is_need = found.is_item; at = d.at; asked_is = asked_is; address_is = ap Some target_is })
      ]

pub fewest_serves : FewestServes
fewest_serves needs m l = (
  (λ need c. ap (λ o. unwrap_or o (Some need.asked)) (walks m (l.choices need.asked).0 need.asked (l.choices need.asked).2 (places need.referrer))
      ∙ (or_given (first_of (get (l.choices need.asked).0) (places need.referrer)) need.asked ∙ ap Some ((l.choices need.asked).1.serves need c refl))),
  record { tidy = l.tidy; only = λ place asked address e. by asked place address (get (l.choices asked).0 place) refl (sym ((l.choices asked).2 place) ∙ e) },
)
  where
    by : (asked place : List ℕ) (address : Option (List ℕ)) (o : Option (List ℕ)) → get (l.choices asked).0 place ≡ o → option_map Some (get (l.choices asked).0 place) ≡ Some address → (need : Need) × IsOf needs place asked address need
    by asked place address None f e = absurd (let g = ap (option_map Some) f in cc)
    by asked place address (Some target) f e =
        let found = of_a_need needs asked (l.choices asked).0 (l.choices asked).1 place target f in
        let address_is : address ≡ Some target = sym (same_Some _ _ (sym (ap (option_map Some) f) ∙ e)) in
        (found.0, record { is_need = found.1.is_need; at = found.1.at; asked_is = found.1.asked_is; address_is = address_is ∙ found.1.address_is })
