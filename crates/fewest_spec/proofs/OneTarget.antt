-- Where the needs for a specifier have one target: nothing is held, or the top level holds it.
use Rattle.std.proofs.Common.{refl, sym, ap, ◌∙◌, subst, arith}
use Rattle.std.specs.Cmp.Lexicographic.{slice_cmp, nat_list_cmp_total}
use Rattle.std.specs.FinMap.{get, empty, len, len-insert, len-empty, empty_of_len, same_map, slice_cmp-IsAntisymmetric, nat_cmp-IsAntisymmetric, contains_key}
use Rattle.std.specs.Option.{option_or}
use Rattle.std.specs.Ordering.{nat_cmp}
use Rattle.std.specs.Prelude.{◌≡◌, ◌⊎◌, ℕ, ◌≤◌, ◌+◌, List, [], ◌∷◌, Option, Some, None, unwrap_or, is_some, Contains}
use Rattle.std.proofs.lemmas.Bool.{cond-false, cases_eq}
use mathlib.Core.Logic.{inl, inr}
use Rattle.import_map_spec.proofs.Entries.{get_nowhere}
use Rattle.layout_spec.proofs.Contained.{contains_cases, contains_none}
use Rattle.layout_spec.proofs.PlaceLemmas.{top_place}
use Rattle.layout_spec.specs.Places.{places}
use Rattle.layout_spec.specs.Serving.{first_of}
use Rattle.layout_spec.specs.declared.Need.{Need}
use Rattle.fewest_spec.specs.Fewest.{Choice, at_top, Held, value_by, Before, IsAhead, alone, Precedes}
use Rattle.fewest_spec.specs.Laws.{OneTarget, NoTarget}
use Rattle.fewest_spec.proofs.Counts.{nothing_else, one_if_some}
use Rattle.fewest_spec.proofs.Values.{get_here, get_before}

none_first : (c : Held) (ps : List (List ℕ)) → ((p : List ℕ) → c p ≡ None) → first_of c ps ≡ None
none_first c [] none = refl
none_first c (p ∷ ps) none = ap (λ o. option_or o (first_of c ps)) (none p) ∙ none_first c ps none

pub no_target : NoTarget
no_target needs asked same = record {
  serves = λ need c asks. ap (λ o. unwrap_or o asked) (none_first (get empty) (places need.referrer) get_nowhere) ∙ sym (same need c asks);
  fewest = λ other serves. (let e = len-empty (slice_cmp nat_cmp) (List ℕ) in omega (arith, e));
  first = λ other serves e. inl (sym (empty_of_len other (e ∙ len-empty (slice_cmp nat_cmp) (List ℕ))));
}

-- of a choice that holds the top level alone
top_first : (t : List ℕ) (ps : List (List ℕ)) → Contains ps [] → first_of (get (at_top t)) ps ≡ Some t
top_first t [] c = absurd (contains_none [] c)
top_first t (p ∷ ps) c = by p (contains_cases [] p ps c) (top_first t ps)
  where
    by : (p : List ℕ) → (p ≡ []) ⊎ Contains ps [] → (Contains ps [] → first_of (get (at_top t)) ps ≡ Some t) → option_or (get (at_top t) p) (first_of (get (at_top t)) ps) ≡ Some t
    by [] at inner = ap (λ o. option_or o (first_of (get (at_top t)) ps)) (get_here empty [] t)
    by (b ∷ rest) (inl same) inner = absurd (let e : b ∷ rest ≡ [] = same in cc)
    by (b ∷ rest) (inr later) inner = ap (λ o. option_or o (first_of (get (at_top t)) ps)) (get_before empty [] t (b ∷ rest) (λ e. cc) ∙ get_nowhere (b ∷ rest)) ∙ inner later

-- a choice that holds the top level and nothing else gives that
held_alone : (c : Held) (u : List ℕ) (ps : List (List ℕ)) → c [] ≡ Some u → ((p : List ℕ) → (p ≡ [] → ⊥) → c p ≡ None) → Contains ps [] → first_of c ps ≡ Some u
held_alone c u [] top none at = absurd (contains_none [] at)
held_alone c u (p ∷ ps) top none at = by p (contains_cases [] p ps at) (held_alone c u ps top none)
  where
    by : (p : List ℕ) → (p ≡ []) ⊎ Contains ps [] → (Contains ps [] → first_of c ps ≡ Some u) → option_or (c p) (first_of c ps) ≡ Some u
    by [] d inner = ap (λ o. option_or o (first_of c ps)) top
    by (b ∷ rest) (inl same) inner = absurd (let e : b ∷ rest ≡ [] = same in cc)
    by (b ∷ rest) (inr later) inner = ap (λ o. option_or o (first_of c ps)) (none (b ∷ rest) (λ e. cc)) ∙ inner later

pub one_target : OneTarget
one_target needs asked t need c asks all apart = record {
  serves = λ other d e. ap (λ o. unwrap_or o asked) (top_first t (places other.referrer) (top_place other.referrer)) ∙ sym (all other d e);
  fewest = λ other serves. some_held other (serves need c asks);
  first = λ other serves e. by other serves (e ∙ size) (get other []) refl;
}
  where
    size : len (at_top t) ≡ 1
    size =
        let e = len-empty (slice_cmp nat_cmp) (List ℕ) in
        let i = len-insert nat_list_cmp_total (empty {X = List ℕ} {R = slice_cmp nat_cmp}) [] t ∙ cond-false (contains_key (empty {X = List ℕ} {R = slice_cmp nat_cmp}) []) (len (empty {X = List ℕ} {R = slice_cmp nat_cmp})) (len (empty {X = List ℕ} {R = slice_cmp nat_cmp}) + 1) (ap is_some (get_nowhere {X = List ℕ} [])) in
        omega (arith, e, i)

    some_held : (other : Choice) → value_by (get other) asked need.referrer ≡ need.target → len (at_top t) ≤ len other
    some_held other value = elim (cases_eq (len other) 0) [
      | inr some ↦ let s = size in omega (arith, s)
      | inl none ↦ absurd (apart (sym (all need c asks) ∙ (sym value ∙ ap (λ o. unwrap_or o asked) (none_first (get other) (places need.referrer) (λ p. ap (λ (m : Choice). get m p) (empty_of_len other none) ∙ get_nowhere p)))))
    ]

    by : (other : Choice) → ((n : Need) → Contains needs n → n.asked ≡ asked → value_by (get other) asked n.referrer ≡ n.target) → len other ≡ 1 → (o : Option (List ℕ)) → get other [] ≡ o → (at_top t ≡ other) ⊎ Precedes (get (at_top t)) (get other)
    by other serves one None e = inr (record {
      place = [];
      same_before = λ before b. absurd (nothing_before before b);
      ahead = subst (λ o. IsAhead o (get other [])) (sym (get_here empty [] t)) (subst (IsAhead (Some t)) (sym e) (alone t));
    })
      where
        nothing_before : (before : List ℕ) → Before before [] → ⊥
        nothing_before [] b = cc
        nothing_before (x ∷ rest) b = cc
    by other serves one (Some u) e =
        let none : (p : List ℕ) → (p ≡ [] → ⊥) → get other p ≡ None = λ p n. nothing_else other ([] ∷ []) p ((λ d. contains_none [] d), tt) (let h = ap one_if_some e in omega (arith, h, one)) (λ d. elim (contains_cases p [] [] d) [
          | inl same ↦ n (sym same)
          | inr later ↦ contains_none p later
        ]) in
        let is_t : u ≡ t = sym (ap (λ o. unwrap_or o asked) (held_alone (get other) u (places need.referrer) e none (top_place need.referrer))) ∙ (serves need c asks ∙ all need c asks) in
        inl (same_map nat_list_cmp_total (slice_cmp-IsAntisymmetric nat_cmp-IsAntisymmetric) (at_top t) other (λ q. at q (e ∙ ap Some is_t) none))
      where
        at : (q : List ℕ) → get other [] ≡ Some t → ((p : List ℕ) → (p ≡ [] → ⊥) → get other p ≡ None) → get (at_top t) q ≡ get other q
        at [] top none = get_here empty [] t ∙ sym top
        at (x ∷ rest) top none = get_before empty [] t (x ∷ rest) (λ e. cc) ∙ (get_nowhere (x ∷ rest) ∙ sym (none (x ∷ rest) (λ e. cc)))
