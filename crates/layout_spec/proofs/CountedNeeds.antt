-- Needs that are counted: none is left out and none added, and each stands once.
use Rattle.std.proofs.Common.{sym, subst, refl, ap}
use Rattle.std.proofs.lemmas.Bool.{and_parts, cases_Bool, cond-true, cond-false, and_from}
use Rattle.std.proofs.lemmas.List.Elements.{Contains-append_left, Contains-push, Contains-push_cases}
use Rattle.std.proofs.lemmas.Map.Keys.{IsDistinct-push}
use Rattle.std.proofs.lemmas.Map.Views.{Contains-from_any}
use Rattle.std.proofs.lemmas.Slice.Eq.{bytes_eq-Decides}
use Rattle.std.specs.Cmp.{IsEquivalence, both_ways}
use Rattle.std.specs.List.{list_any, IsDistinct}
use Rattle.std.specs.Prelude.{◌≡◌, true, List, [], ◌∷◌, ◌++◌, if◌then◌else◌, Contains, ◌⊎◌}
use mathlib.Core.Logic.{inl, inr}
use Rattle.layout_spec.proofs.Contained.{contains_cases, contains_none, contains_here, contains_there}
use Rattle.layout_spec.specs.Laws.{CountedKeeps, CountedOnce}
use Rattle.layout_spec.specs.Needs.{is_need, counted_onto, with_need}
use Rattle.layout_spec.specs.declared.Need.{Need}

pub same_need : (one other : Need) → one.referrer ≡ other.referrer → one.asked ≡ other.asked → one.target ≡ other.target → one ≡ other
same_need one other r a t = λ i. record { referrer = r i; asked = a i; target = t i }

pub need_by_test : (one other : Need) → is_need one other ≡ true → one ≡ other
need_by_test one other e =
    let outer = and_parts _ _ e in
    let inner = and_parts _ _ outer.0 in
    same_need one other ((bytes_eq-Decides _ _).0 inner.0) ((bytes_eq-Decides _ _).0 inner.1) ((bytes_eq-Decides _ _).0 outer.1)

pub with_need_old : (needs : List Need) (need any : Need) → Contains needs any → Contains (with_need needs need) any
with_need_old needs need any c =
    elim (cases_Bool (list_any (is_need need) needs)) [
      | inl known ↦ subst (λ ns. Contains ns any) (sym (cond-true _ needs (needs ++ need ∷ []) known)) c
      | inr new ↦ subst (λ ns. Contains ns any) (sym (cond-false _ needs (needs ++ need ∷ []) new)) (Contains-append_left needs (need ∷ []) any c)
    ]

pub with_need_new : (needs : List Need) (need : Need) → Contains (with_need needs need) need
with_need_new needs need =
    elim (cases_Bool (list_any (is_need need) needs)) [
      | inl known ↦ subst (λ ns. Contains ns need) (sym (cond-true _ needs (needs ++ need ∷ []) known)) (Contains-from_any need_by_test need needs known)
      | inr new ↦ subst (λ ns. Contains ns need) (sym (cond-false _ needs (needs ++ need ∷ []) new)) (Contains-push needs need)
    ]

pub with_need_cases : (needs : List Need) (need any : Need) → Contains (with_need needs need) any → Contains needs any ⊎ (need ≡ any)
with_need_cases needs need any c =
    elim (cases_Bool (list_any (is_need need) needs)) [
      | inl known ↦ inl (subst (λ ns. Contains ns any) (cond-true _ needs (needs ++ need ∷ []) known) c)
      | inr new ↦ Contains-push_cases needs need any (subst (λ ns. Contains ns any) (cond-false _ needs (needs ++ need ∷ []) new) c)
    ]

onto_keeps : (done more : List Need) (any : Need) → Contains done any ⊎ Contains more any → Contains (counted_onto done more) any
onto_keeps done [] any (inl c) = c
onto_keeps done [] any (inr c) = absurd (contains_none any c)
onto_keeps done (need ∷ more) any (inl c) = onto_keeps (with_need done need) more any (inl (with_need_old done need any c))
onto_keeps done (need ∷ more) any (inr c) =
    elim (contains_cases any need more c) [
      | inl same ↦ onto_keeps (with_need done need) more any (inl (subst (Contains (with_need done need)) same (with_need_new done need)))
      | inr later ↦ onto_keeps (with_need done need) more any (inr later)
    ]

onto_only : (done more : List Need) (any : Need) → Contains (counted_onto done more) any → Contains done any ⊎ Contains more any
onto_only done [] any c = inl c
onto_only done (need ∷ more) any c =
    elim (onto_only (with_need done need) more any c) [
      | inl before ↦ elim (with_need_cases done need any before) [
        | inl old ↦ inl old
        | inr same ↦ inr (subst (Contains (need ∷ more)) same (contains_here need more))
      ]
      | inr later ↦ inr (contains_there any need more later)
    ]

pub counted_keeps : CountedKeeps
counted_keeps needs need = (λ c. onto_keeps [] needs need (inr c), λ c. only (onto_only [] needs need c))
  where
    only : Contains [] need ⊎ Contains needs need → Contains needs need
    only (inl c) = absurd (contains_none need c)
    only (inr c) = c

pub need_itself : (need : Need) → is_need need need ≡ true
need_itself need = and_from _ _ (and_from _ _ ((bytes_eq-Decides need.referrer need.referrer).1 refl) ((bytes_eq-Decides need.asked need.asked).1 refl)) ((bytes_eq-Decides need.target need.target).1 refl)

same_turned : (one other : Need) → is_need one other ≡ true → is_need other one ≡ true
same_turned one other e = subst (λ need. is_need need one ≡ true) (need_by_test one other e) (need_itself one)

-- `is_need` says that two needs are equal
need_equiv : IsEquivalence is_need
need_equiv = record {
  refl = need_itself;
  symm = λ one other. both_ways (is_need one other) (is_need other one) (same_turned one other) (same_turned other one);
  congr = λ one other third e. ap (λ need. is_need need third) (need_by_test one other e);
}

onto_distinct : (done more : List Need) → IsDistinct is_need done → IsDistinct is_need (counted_onto done more)
onto_distinct done [] d = d
onto_distinct done (need ∷ more) d =
    onto_distinct (if list_any (is_need need) done then done else done ++ need ∷ []) more
    (elim (cases_Bool (list_any (is_need need) done)) [
      | inl known ↦ subst (IsDistinct is_need) (sym (cond-true _ done (done ++ need ∷ []) known)) d
      | inr new ↦ subst (IsDistinct is_need) (sym (cond-false _ done (done ++ need ∷ []) new)) (IsDistinct-push need_equiv done need d new)
    ])

none_distinct : IsDistinct is_need []
unfolding IsDistinct
none_distinct = tt

pub counted_once : CountedOnce
counted_once needs = onto_distinct [] needs none_distinct
