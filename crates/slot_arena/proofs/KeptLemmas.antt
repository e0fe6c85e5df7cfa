-- The fields' invariant through each change of an arena.
use Rattle.std.proofs.Common.{◌≡◌, ◌≢◌, inl, inr, ℕ, ◌+◌, ◌-◌, ◌^◌, ◌<◌, ◌≤◌, List, [], ◌∷◌, ◌++◌, length, get_or, slice_set, replicate, Some, None, refl, sym, ap, ◌∙◌, subst, arith, length-append, length-set}
use Rattle.std.proofs.lemmas.List.{get_or_append_left, get_or-set_same, get_or-set_other, length-replicate, get_or_past, get_or-append_right, get_or-replicate}
use Rattle.slot_arena.specs.Slots.{Place, place, place_at}
use Rattle.slot_arena.specs.Counts.{vacancy_of, vacancy, fullness_of, fullness, IsSound}
use Rattle.slot_arena.specs.Kept.{times, down_to, retired, IsKept}
use Rattle.slot_arena.proofs.Times.{same_or_not, below_or_not, times-append, times-one, times-none, times-below, times-past, times-within, length-down_to}
use Rattle.slot_arena.proofs.PlaceLemmas.{vacancy_of-small, vacancy_of-spent, vacancy_of-one, vacancy_of-tells, get_or-any, spare-set, live-set, live-some, spare-grown, live-grown}

module _ {X : Type 0} where
  -- a place that `vacancy` counts is one of those that there are
  vacant_within : (a : List (Place X)) (i : ℕ) → 0 < vacancy (get_or a i retired) → i < length a
  vacant_within a i lt = elim (below_or_not i (length a)) [
    | inl within ↦ within
    | inr past ↦ absurd (let none = ap vacancy (get_or_past a i retired past) in omega (arith, none, vacancy_of-spent X (2 ^ 32) (omega arith), lt))
  ]

  filled_within : (a : List (Place X)) (i : ℕ) (x : X) → (place_at a i).value ≡ Some x → i < length a
  filled_within a i x is = elim (below_or_not i (length a)) [
    | inl within ↦ within
    | inr past ↦ absurd (let none = ap (λ (p : Place X). p.value) (get_or_past a i (place None 0) past) in let bad : Some x ≡ None = sym is ∙ none in cc)
  ]

module _ {X : Type 0} {a : List (Place X)} {free : List ℕ} {counted room : ℕ} where
  -- one place set: what its new content owes
  pub kept-set : (i : ℕ) (p : Place X) (after : List ℕ) (count : ℕ) → i < length a → IsKept a free counted room → IsSound p
      → ((q : ℕ) → q ≢ i → times q after ≡ times q free) → times i after ≡ vacancy p
      → length after + vacancy (place_at a i) ≡ length free + vacancy p → count + fullness (place_at a i) ≡ counted + fullness p
      → IsKept (slice_set a i p) after count room
  kept-set i p after count within k sound others here longer counts = record {
    each_once = λ q. elim (same_or_not q i) [
      | inl e ↦ subst (λ j. times j after ≡ vacancy (get_or (slice_set a i p) j retired)) (sym e) (here ∙ ap vacancy (sym (get_or-set_same a i p retired within)))
      | inr ne ↦ others q ne ∙ k.each_once q ∙ ap vacancy (sym (get_or-set_other a i q p retired ne))
    ];
    all_spare = omega (arith, spare-set a i p within, k.all_spare, longer);
    all_live = omega (arith, live-set a i p within, k.all_live, counts);
    all_sound = λ q. elim (same_or_not q i) [
      | inl e ↦ subst (λ j. IsSound (get_or (slice_set a i p) j (place None 0))) (sym e) (subst IsSound (sym (get_or-set_same a i p (place None 0) within)) sound)
      | inr ne ↦ subst IsSound (sym (get_or-set_other a i q p (place None 0) ne)) (k.all_sound q)
    ];
    has_room = omega (arith, length-set a i p, k.has_room);
    is_small = omega (arith, length-set a i p, k.is_small);
  }

  pub kept-more_room : (more : ℕ) → room ≤ more → IsKept a free counted room → IsKept a free counted more
  kept-more_room more le k = record {
    each_once = k.each_once;
    all_spare = k.all_spare;
    all_live = k.all_live;
    all_sound = k.all_sound;
    has_room = omega (arith, k.has_room, le);
    is_small = k.is_small;
  }

-- the place that comes off the list of free ones
pub record IsPopped {X : Type 0} (a : List (Place X)) (rest : List ℕ) (i : ℕ) : Type 0 where
  pub within : i < length a
  pub empty : (place_at a i).value ≡ None
  pub unspent : (place_at a i).next < 2 ^ 32
  pub once : times i rest ≡ 0

module _ {X : Type 0} {a : List (Place X)} {counted room : ℕ} where
  pub popped : (rest : List ℕ) (i : ℕ) → IsKept a (rest ++ i ∷ []) counted room → IsPopped a rest i
  popped rest i k =
      let p = get_or a i retired in
      let one : times i rest + 1 ≡ vacancy p = omega (arith, k.each_once i, times-append i rest (i ∷ []), times-one i i refl) in
      let some : 0 < vacancy p = omega (arith, one) in
      let within = vacant_within a i some in
      let same : p ≡ place_at a i = get_or-any a i retired (place None 0) within in
      let tells = vacancy_of-tells (place_at a i).value (place_at a i).next (subst (λ q. 0 < vacancy q) same some) in
      record {
        within = within;
        empty = tells.0;
        unspent = tells.1;
        once = omega (arith, one, vacancy_of-one p.value p.next);
      }

  pub kept-placed : (rest : List ℕ) (i : ℕ) (x : X) → IsKept a (rest ++ i ∷ []) counted room
      → IsKept (slice_set a i (place (Some x) ((place_at a i).next + 1))) rest (counted + 1) room
  kept-placed rest i x k =
      let p = popped rest i k in let n = (place_at a i).next in
      let one : vacancy (place_at a i) ≡ 1 = ap (λ v. vacancy_of v n) p.empty ∙ vacancy_of-small X n p.unspent in
      let none : fullness (place_at a i) ≡ 0 = ap fullness_of p.empty in
      kept-set i (place (Some x) (n + 1)) rest (counted + 1) p.within k (omega arith, omega (arith, p.unspent))
      (λ q ne. omega (arith, times-append q rest (i ∷ []), times-none q i ne)) p.once
      (omega (arith, length-append rest (i ∷ []), one)) (omega (arith, none))

module _ {X : Type 0} {a : List (Place X)} {free : List ℕ} {counted room : ℕ} where
  absent : (i : ℕ) (x : X) → (place_at a i).value ≡ Some x → IsKept a free counted room → times i free ≡ 0
  absent i x is k =
      let same = get_or-any a i retired (place None 0) (filled_within a i x is) in
      k.each_once i ∙ ap vacancy same ∙ ap (λ v. vacancy_of v (place_at a i).next) is

  pub kept-written : (i : ℕ) (x w : X) → (place_at a i).value ≡ Some x → IsKept a free counted room
      → IsKept (slice_set a i (place (Some w) (place_at a i).next)) free counted room
  kept-written i x w is k =
      let n = (place_at a i).next in let one : fullness (place_at a i) ≡ 1 = ap fullness_of is in
      let none : vacancy (place_at a i) ≡ 0 = ap (λ v. vacancy_of v n) is in
      kept-set i (place (Some w) n) free counted (filled_within a i x is) k (omega (arith, (k.all_sound i).0, one), (k.all_sound i).1)
      (λ q ne. refl) (absent i x is k) (omega (arith, none)) (omega (arith, one))

  pub kept-freed : (i : ℕ) (x : X) → (place_at a i).value ≡ Some x → (place_at a i).next < 2 ^ 32 → IsKept a free counted room
      → IsKept (slice_set a i (place None (place_at a i).next)) (free ++ i ∷ []) (counted - 1) room
  kept-freed i x is lt k =
      let n = (place_at a i).next in let within = filled_within a i x is in let one : fullness (place_at a i) ≡ 1 = ap fullness_of is in
      let none : vacancy (place_at a i) ≡ 0 = ap (λ v. vacancy_of v n) is in let some = vacancy_of-small X n lt in
      kept-set i (place None n) (free ++ i ∷ []) (counted - 1) within k (omega arith, (k.all_sound i).1)
      (λ q ne. omega (arith, times-append q free (i ∷ []), times-none q i ne))
      (omega (arith, times-append i free (i ∷ []), times-one i i refl, absent i x is k, some))
      (omega (arith, length-append free (i ∷ []), none, some)) (omega (arith, one, k.all_live, live-some a i within))

  pub kept-retired : (i : ℕ) (x : X) → (place_at a i).value ≡ Some x → 2 ^ 32 ≤ (place_at a i).next → IsKept a free counted room
      → IsKept (slice_set a i (place None (place_at a i).next)) free (counted - 1) room
  kept-retired i x is le k =
      let n = (place_at a i).next in let within = filled_within a i x is in let one : fullness (place_at a i) ≡ 1 = ap fullness_of is in
      let none : vacancy (place_at a i) ≡ 0 = ap (λ v. vacancy_of v n) is in let spent = vacancy_of-spent X n le in
      kept-set i (place None n) free (counted - 1) within k (omega arith, (k.all_sound i).1)
      (λ q ne. refl) (omega (arith, absent i x is k, spent)) (omega (arith, none, spent)) (omega (arith, one, k.all_live, live-some a i within))

  -- places more, all empty, at the end
  pub kept-grown : (m g more : ℕ) → g < 2 ^ 32 → length a + m ≤ more → length a + m < 2 ^ 32 → IsKept a free counted room
      → IsKept (a ++ replicate m (place None g)) (free ++ down_to (length a) m) counted more
  kept-grown m g more unspent fits small k =
      let n = length a in let p : Place X = place None g in let b = a ++ replicate m p in
      let long : length b ≡ n + m = omega (arith, length-append a (replicate m p), length-replicate m p) in
      let old = λ (q : ℕ) (d : Place X) (lt : q < n). get_or_append_left a (replicate m p) d q lt in
      let new = λ (q : ℕ) (d : Place X) (le : n ≤ q) (lt : q < n + m). get_or-append_right a (replicate m p) n q d refl le ∙ get_or-replicate m (q - n) p d (omega (arith, le, lt)) in
      let past = λ (q : ℕ) (d : Place X) (le : n + m ≤ q). get_or_past b q d (omega (arith, le, long)) in
      let spent = vacancy_of-spent X (2 ^ 32) (omega arith) in
      let unused = λ (q : ℕ) (le : n ≤ q). k.each_once q ∙ ap vacancy (get_or_past a q retired le) ∙ spent in
      record {
        each_once = λ q. let split = times-append q free (down_to n m) in elim (below_or_not q n) [
          | inl lt ↦ let same : times q (free ++ down_to n m) ≡ times q free = omega (arith, split, times-below q n m lt) in
              same ∙ k.each_once q ∙ ap vacancy (sym (old q retired lt))
          | inr le ↦ elim (below_or_not q (n + m)) [
            | inl lt ↦ let one : times q (free ++ down_to n m) ≡ 1 = omega (arith, split, times-within q n m le lt, unused q le) in
                one ∙ sym (vacancy_of-small X g unspent) ∙ ap vacancy (sym (new q retired le lt))
            | inr far ↦ let none : times q (free ++ down_to n m) ≡ 0 = omega (arith, split, times-past q n m far, unused q le) in
                none ∙ sym spent ∙ ap vacancy (sym (past q retired far))
          ]
        ];
        all_spare = omega (arith, length-append free (down_to n m), length-down_to n m, spare-grown a m g unspent, k.all_spare);
        all_live = omega (arith, live-grown a m g, k.all_live);
        all_sound = λ q. elim (below_or_not q n) [
          | inl lt ↦ subst IsSound (sym (old q (place None 0) lt)) (k.all_sound q)
          | inr le ↦ elim (below_or_not q (n + m)) [
            | inl lt ↦ subst IsSound (sym (new q (place None 0) le lt)) (omega arith, omega (arith, unspent))
            | inr far ↦ subst IsSound (sym (past q (place None 0) far)) (omega arith, omega arith)
          ]
        ];
        has_room = omega (arith, long, fits);
        is_small = omega (arith, long, small);
      }
