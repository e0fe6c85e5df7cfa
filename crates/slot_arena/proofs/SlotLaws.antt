-- The laws of an arena.
use Rattle.std.proofs.Common.{◌≡◌, ◌≢◌, ◌⊎◌, inl, inr, ℕ, zero, suc, ◌+◌, ◌-◌, ◌<◌, ◌≤◌, ◌==◌, if◌then◌else◌, List, length, get_or, replicate, Option, Some, None, refl, sym, ap, ◌∙◌, arith, length-set, length-append}
use Rattle.std.proofs.lemmas.List.{get_or-set_same, get_or-set_other, get_or_append_left, get_or-append_right, get_or_past, length-replicate}
use Rattle.std.proofs.lemmas.Grind.{common_steps}
use Rattle.slot_arena.specs.declared.slot.Slot.{Slot}
use Rattle.slot_arena.specs.Slots.{Place, place, place_at, value_at, IsGiven, IsFresh, set_at, with_places}
use Rattle.slot_arena.specs.Counts.{vacancy_of, vacancy, fullness_of, fullness}
use Rattle.slot_arena.specs.Calls.{Calls, begin, reserved, inserted, written, removed}
use Rattle.slot_arena.specs.Laws.{GivenOnce, LiveIsGiven, IsSameBut, Inserts, Writes, Removes, Grows}
use Rattle.slot_arena.proofs.Times.{same_or_not, below_or_not}
use Rattle.slot_arena.proofs.PlaceLemmas.{vacancy_of-small, spare-set, live-set, spare-grown, live-grown}

all_alike : {A : Type 0} (x : A) (n i : ℕ) → get_or (replicate n x) i x ≡ x
all_alike x zero i = refl
all_alike x (suc n) zero = refl
all_alike x (suc n) (suc i) = all_alike x n i

same_slot : (s t : Slot) → s.index ≡ t.index → s.generation ≡ t.generation → s ≡ t
same_slot s t i g = λ j. record { index = i j; generation = g j }

pub same_slot_or_not : (s t : Slot) → (s ≡ t) ⊎ (s ≢ t)
same_slot_or_not s t = elim (same_or_not s.index t.index) [
  | inl i ↦ elim (same_or_not s.generation t.generation) [ inl g ↦ inl (same_slot s t i g) | inr ne ↦ inr (λ e. ne (ap (λ (r : Slot). r.generation) e)) ]
  | inr ne ↦ inr (λ e. ne (ap (λ (r : Slot). r.index) e))
]

module _ {X : Type 0} where
  -- what a place gives under a generation
  abbrev gives : Place X → ℕ → Option X
  gives p g = if p.next == g + 1 then p.value else None

  gives-tells : (p : Place X) (g : ℕ) (x : X) → gives p g ≡ Some x → (p.next ≡ g + 1) × (p.value ≡ Some x)
  gives-tells p g x e = grind (arith, common_steps)

  gives-last : (v : Option X) (g : ℕ) → gives (place v (g + 1)) g ≡ v
  gives-last v g = grind (arith, common_steps)

  gives-earlier : (p : Place X) (g : ℕ) → p.next ≢ g + 1 → gives p g ≡ None
  gives-earlier p g ne = grind (arith, common_steps)

  gives-empty : (n g : ℕ) → gives (place None n) g ≡ None
  gives-empty n g = grind (arith, common_steps)

  nothing_at_zero : (v : Option X) (g : ℕ) → gives (place v 0) g ≡ None
  nothing_at_zero v g = gives-earlier (place v 0) g (λ e. omega (arith, e))

  given_within : (a : List (Place X)) (i n : ℕ) → 0 < n → (place_at a i).next ≡ n → i < length a
  given_within a i n some e = elim (below_or_not i (length a)) [
    | inl lt ↦ lt
    | inr le ↦ absurd (let none = ap (λ (p : Place X). p.next) (get_or_past a i (place None 0) le) in omega (arith, some, e, none))
  ]

  -- what is known of a live slot's place
  record IsLast (a : List (Place X)) (s : Slot) (x : X) : Type 0 where
    next : (place_at a s.index).next ≡ s.generation + 1
    value : (place_at a s.index).value ≡ Some x
    within : s.index < length a

  last : (a : List (Place X)) (s : Slot) (x : X) → value_at a s ≡ Some x → IsLast a s x
  last a s x e =
      let t = gives-tells (place_at a s.index) s.generation x e in
      record { next = t.0; value = t.1; within = given_within a s.index (s.generation + 1) (omega arith) t.0 }

  here-set : (a : List (Place X)) (s : Slot) (v : Option X) → s.index < length a → value_at (set_at a s v) s ≡ v
  here-set a s v within =
      ap (λ p. gives p s.generation) (get_or-set_same a s.index (place v (s.generation + 1)) (place None 0) within) ∙ gives-last v s.generation

  -- the slots of other generations give nothing, before and after
  elsewhere-set : (a : List (Place X)) (s : Slot) (v : Option X) → s.index < length a
      → ((g : ℕ) → g ≢ s.generation → gives (place_at a s.index) g ≡ None) → IsSameBut a (set_at a s v) s
  elsewhere-set a s v within others t ne = elim (same_or_not t.index s.index) [
    | inl e ↦
        let apart : t.generation ≢ s.generation = λ g. ne (same_slot t s e g) in
        let now = ap (λ i. gives (get_or (set_at a s v) i (place None 0)) t.generation) e
        ∙ ap (λ p. gives p t.generation) (get_or-set_same a s.index (place v (s.generation + 1)) (place None 0) within)
        ∙ gives-earlier (place v (s.generation + 1)) t.generation (λ e. apart (omega (arith, e))) in
        let was = ap (λ i. gives (place_at a i) t.generation) e ∙ others t.generation apart in
        now ∙ sym was
    | inr other ↦ ap (λ p. gives p t.generation) (get_or-set_other a s.index t.index (place v (s.generation + 1)) (place None 0) other)
  ]

  fresh_others : (a : List (Place X)) (s : Slot) → IsFresh a s → (g : ℕ) → gives (place_at a s.index) g ≡ None
  fresh_others a s fresh g = ap (λ p. gives p g) fresh.empty ∙ gives-empty s.generation g

  last_others : (a : List (Place X)) (s : Slot) (x : X) → IsLast a s x → (g : ℕ) → g ≢ s.generation → gives (place_at a s.index) g ≡ None
  last_others a s x l g ne = gives-earlier (place_at a s.index) g (λ e. ne (omega (arith, l.next, e)))

  inserts : Inserts X
  inserts a s x fresh =
      let p = place (Some x) (s.generation + 1) in
      let one : vacancy (place_at a s.index) ≡ 1 = ap vacancy fresh.empty ∙ vacancy_of-small X s.generation fresh.unspent in
      let none : fullness (place_at a s.index) ≡ 0 = ap fullness fresh.empty in
      record {
        before = fresh_others a s fresh s.generation;
        here = here-set a s (Some x) fresh.within;
        elsewhere = elsewhere-set a s (Some x) fresh.within (λ g ne. fresh_others a s fresh g);
        one_less = omega (arith, spare-set a s.index p fresh.within, one);
        one_more = omega (arith, live-set a s.index p fresh.within, none);
        made = length-set a s.index p;
      }

  writes : Writes X
  writes a s x y is =
      let l = last a s x is in let p = place (Some y) (s.generation + 1) in
      let none : vacancy (place_at a s.index) ≡ 0 = ap (λ v. vacancy_of v (place_at a s.index).next) l.value in
      let one : fullness (place_at a s.index) ≡ 1 = ap fullness_of l.value in
      record {
        here = here-set a s (Some y) l.within;
        elsewhere = elsewhere-set a s (Some y) l.within (last_others a s x l);
        as_spare = omega (arith, spare-set a s.index p l.within, none);
        as_live = omega (arith, live-set a s.index p l.within, one);
        made = length-set a s.index p;
      }

  removes : Removes X
  removes a s x is =
      let l = last a s x is in let p : Place X = place None (s.generation + 1) in
      let none : vacancy (place_at a s.index) ≡ 0 = ap (λ v. vacancy_of v (place_at a s.index).next) l.value in
      let one : fullness (place_at a s.index) ≡ 1 = ap fullness_of l.value in
      record {
        here = here-set a s None l.within;
        elsewhere = elsewhere-set a s None l.within (last_others a s x l);
        freed = omega (arith, spare-set a s.index p l.within, none);
        one_less = omega (arith, live-set a s.index p l.within, one);
        made = length-set a s.index p;
      }

  -- a place that was made is as good as none, to every slot
  at-grown : (a : List (Place X)) (n i : ℕ) → place_at (with_places a n) i ≡ place_at a i
  at-grown a n i = elim (below_or_not i (length a)) [
    | inl lt ↦ get_or_append_left a (replicate n (place None 0)) (place None 0) i lt
    | inr le ↦ get_or-append_right a (replicate n (place None 0)) (length a) i (place None 0) refl le ∙ all_alike (place None 0) n (i - length a) ∙ sym (get_or_past a i (place None 0) le)
  ]

  grows : Grows X
  grows a n =
      let p : Place X = place None 0 in
      record {
        everywhere = λ s. ap (λ p. gives p s.generation) (at-grown a n s.index);
        giving = λ s. let e = ap (λ (p : Place X). p.next) (at-grown a n s.index) in (λ lt. omega (arith, lt, e), λ lt. omega (arith, lt, e));
        more_spare = spare-grown a n 0 (omega arith);
        as_live = live-grown a n 0;
        made = omega (arith, length-append a (replicate n p), length-replicate n p);
      }

  live_given : LiveIsGiven X
  live_given a s x is = omega (arith, (last a s x is).next)

  -- where the generation of its place does not fall, a slot that was given stays so
  given-set : (a : List (Place X)) (s t : Slot) (v : Option X) → s.index < length a → (place_at a s.index).next ≤ s.generation + 1 → IsGiven a t → IsGiven (set_at a s v) t
  given-set a s t v within rises given = elim (same_or_not t.index s.index) [
    | inl e ↦
        let new = ap (λ (p : Place X). p.next) (ap (place_at (set_at a s v)) e ∙ get_or-set_same a s.index (place v (s.generation + 1)) (place None 0) within) in
        let old = ap (λ i. (place_at a i).next) e in omega (arith, new, old, given, rises)
    | inr ne ↦ let same = ap (λ (p : Place X). p.next) (get_or-set_other a s.index t.index (place v (s.generation + 1)) (place None 0) ne) in omega (arith, same, given)
  ]

  stays : (a b : List (Place X)) (s : Slot) → IsGiven a s → Calls a b → IsGiven b s
  stays a b s h begin = h
  stays a b s h (reserved {a = c} n calls) = ((grows c n).giving s).1 (stays a c s h calls)
  stays a b s h (inserted {a = c} t x fresh calls) =
      given-set c t s (Some x) fresh.within (let e = ap (λ (p : Place X). p.next) fresh.empty in omega (arith, e)) (stays a c s h calls)
  stays a b s h (written {a = c} t x y is calls) = let l = last c t x is in given-set c t s (Some y) l.within (omega (arith, l.next)) (stays a c s h calls)
  stays a b s h (removed {a = c} t x is calls) = let l = last c t x is in given-set c t s None l.within (omega (arith, l.next)) (stays a c s h calls)

  fresh_not_given : (b : List (Place X)) (s t : Slot) → IsGiven b s → IsFresh b t → t ≢ s
  fresh_not_given b s t given fresh e =
      let i = ap (λ (r : Slot). (place_at b r.index).next) e in let n = ap (λ (p : Place X). p.next) fresh.empty in let g = ap (λ (r : Slot). r.generation) e in
      omega (arith, given, i, n, g)

  empty_not_live : (c : List (Place X)) (s t : Slot) (x : X) → value_at c s ≡ None → value_at c t ≡ Some x → s ≢ t
  empty_not_live c s t x none is e = let bad : None ≡ Some x = sym none ∙ ap (value_at c) e ∙ is in cc

  gone : (a b : List (Place X)) (s : Slot) → IsGiven a s → value_at a s ≡ None → Calls a b → value_at b s ≡ None
  gone a b s given none begin = none
  gone a b s given none (reserved {a = c} n calls) = (grows c n).everywhere s ∙ gone a c s given none calls
  gone a b s given none (inserted {a = c} t x fresh calls) =
      let apart = fresh_not_given c s t (stays a c s given calls) fresh in (inserts c t x fresh).elsewhere s (λ e. apart (sym e)) ∙ gone a c s given none calls
  gone a b s given none (written {a = c} t x y is calls) =
      let still = gone a c s given none calls in (writes c t x y is).elsewhere s (empty_not_live c s t x still is) ∙ still
  gone a b s given none (removed {a = c} t x is calls) =
      let still = gone a c s given none calls in (removes c t x is).elsewhere s (empty_not_live c s t x still is) ∙ still

  once : GivenOnce X
  once = record {
    given = λ a s x fresh. let e = ap (λ (p : Place X). p.next) (get_or-set_same a s.index (place (Some x) (s.generation + 1)) (place None 0) fresh.within) in omega (arith, e);
    stays = stays;
    never_again = λ a b s t h calls fresh. fresh_not_given b s t (stays a b s h calls) fresh;
    gone = gone;
  }

pub given_once : (X : Type 0) → GivenOnce X
given_once X = once

pub is_given : (X : Type 0) → LiveIsGiven X
is_given X = live_given

pub each_inserts : (X : Type 0) → Inserts X
each_inserts X = inserts

pub each_writes : (X : Type 0) → Writes X
each_writes X = writes

pub each_removes : (X : Type 0) → Removes X
each_removes X = removes

pub each_grows : (X : Type 0) → Grows X
each_grows X = grows
