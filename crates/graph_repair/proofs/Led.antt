-- Where requests lead, by a table of places.
--     next_lead           one target more
--     own_indexes         the slots of a trace have indexes of their own
--     set_more            one place more in the table
--     in_their_places     the table leads to the targets
use Rattle.std.proofs.Common.{◌≡◌, ◌≢◌, ◌<◌, ◌+◌, ◌++◌, ℕ, zero, suc, List, [], ◌∷◌, length, map, take, get_or, Option, Some, None, refl, sym, ap, ◌∙◌, subst, inl, inr, arith}
use Rattle.std.specs.Prelude.{All, slice_get, slice_set}
use Rattle.std.proofs.lemmas.List.{get_or-set_same, get_or-set_other}
use Rattle.std.proofs.lemmas.List.Elements.{All-map, All-weaker, All-head, All-tail}
use Rattle.std.proofs.lemmas.Option.{slice_get_within, slice_get-get_or, get_or_from_slice_get}
use Rattle.slot_arena.specs.Slots.{Place, place_at}
use Rattle.slot_arena.specs.declared.slot.Slot.{Slot}
use Rattle.slot_arena.proofs.Times.{below_or_not}
use Rattle.module_graph.specs.declared.module.Module as vertex
use Rattle.module_graph.specs.Modules.{set_one}
use Rattle.module_graph.specs.Many.{AreApart}
use Rattle.trace_graph.specs.Links.{Links, IsLinked, IsLive, IsSet, all_targets}
use Rattle.trace_graph.proofs.Alone.{stands, live_listed}
use Rattle.graph_repair.specs.Leads.{place_in, HasOwnIndexes, AreByPlace, AreInTheirPlaces}
use Rattle.graph_repair.specs.Repairs.{led_by}

pub next_lead : (f : Option Slot → ℕ) (targets : List (Option Slot)) (i : ℕ) → i < length targets
    → map f (take (i + 1) targets) ≡ map f (take i targets) ++ f (set_one (slice_get targets i)) ∷ []
next_lead f [] i below = absurd (omega (arith, below))
next_lead f (t ∷ targets) zero below = refl
next_lead f (t ∷ targets) (suc i) below =
    let next : suc i + 1 ≡ suc (i + 1) = omega arith in
    ap (λ n. map f (take n (t ∷ targets))) next ∙ ap (λ ls. f t ∷ ls) (next_lead f targets i (omega (arith, below)))

-- ---- indexes

pub at_place : (slots : List Slot) (i : ℕ) (s : Slot) (P : Slot → Type 0) → slice_get slots i ≡ Some s → All P slots → P s
at_place slots i s P at all = subst P (get_or_from_slice_get slots i s s at) (all i s (slice_get_within slots i s at))

apart_at : (slots : List Slot) → AreApart slots → (i j : ℕ) (s : Slot) → slice_get slots i ≡ Some s → slice_get slots j ≡ Some s → i ≡ j
apart_at [] apart i j s one other = absurd (let bad : None ≡ Some s = one in cc)
apart_at (t ∷ slots) apart zero zero s one other = refl
apart_at (t ∷ slots) apart zero (suc j) s one other =
    absurd (at_place slots j s (λ u. u ≢ t) other apart.0 (let both : Some t ≡ Some s = one in let is : s ≡ t = cc in is))
apart_at (t ∷ slots) apart (suc i) zero s one other =
    absurd (at_place slots i s (λ u. u ≢ t) one apart.0 (let both : Some t ≡ Some s = other in let is : s ≡ t = cc in is))
apart_at (t ∷ slots) apart (suc i) (suc j) s one other = ap (λ n. suc n) (apart_at slots apart.1 i j s one other)

-- live slots with one index are one
one_slot : (g : List (Place vertex.Module)) (s t : Slot) → IsLive g s → IsLive g t → s.index ≡ t.index → s ≡ t
one_slot g s t one two same =
    let a = (stands g s one.0 one.1).last in
    let b = (stands g t two.0 two.1).last in
    let next : s.generation + 1 ≡ t.generation + 1 = sym a ∙ (ap (λ i. (place_at g i).next) same ∙ b) in
    let generation : s.generation ≡ t.generation = omega (arith, next) in
    λ i. record { index = same i; generation = generation i }

pub own_indexes : (l : Links) → IsLinked l → HasOwnIndexes l.slots
own_indexes l linked i j s t one two same =
    let is : s ≡ t = one_slot l.graph s t (at_place l.slots i s (IsLive l.graph) one linked.slots) (at_place l.slots j t (IsLive l.graph) two linked.slots) same in
    apart_at l.slots linked.apart i j s one (two ∙ ap Some (sym is))

pub set_more : (slots : List Slot) (places after : List ℕ) (p : ℕ) (s : Slot) → slice_get slots p ≡ Some s → s.index < length places → after ≡ slice_set places s.index p
    → (HasOwnIndexes slots → (i : ℕ) (t : Slot) → i < p → slice_get slots i ≡ Some t → get_or places t.index 0 ≡ i)
    → HasOwnIndexes slots → (i : ℕ) (t : Slot) → i < p + 1 → slice_get slots i ≡ Some t → get_or after t.index 0 ≡ i
set_more slots places after p s here within is before own i t below at =
    elim (below_or_not i p) [
      | inl lt ↦ ap (λ ps. get_or ps t.index 0) is
          ∙ (get_or-set_other places s.index t.index p 0 (λ same. (let one : i ≡ p = own i p t s at here same in omega (arith, one, lt)))
          ∙ before own i t lt at)
      | inr past ↦ (let one : i ≡ p = omega (arith, below, past) in
          let two : Some t ≡ Some s = sym at ∙ (ap (slice_get slots) one ∙ here) in
          let slot : t ≡ s = cc in
          ap (λ ps. get_or ps t.index 0) is
          ∙ (ap (λ (u : Slot). get_or (slice_set places s.index p) u.index 0) slot
          ∙ (get_or-set_same places s.index p 0 within ∙ sym one)))
    ]

-- ---- the table leads to the targets

map_back : {X Y : Type 0} (h : Y → X) (f : X → Y) (xs : List X) → All (λ x. h (f x) ≡ x) xs → map h (map f xs) ≡ xs
map_back h f [] all = refl
map_back h f (x ∷ xs) all = λ i. All-head (λ x. h (f x) ≡ x) x xs all i ∷ map_back h f xs (All-tail (λ x. h (f x) ≡ x) x xs all) i

module _ (l : Links) (places : List ℕ) (linked : IsLinked l) (by : AreByPlace l.slots places) where
  record Leads (target : Option Slot) : Type 0 where
    below : place_in places target < length l.slots
    back : led_by l.slots (place_in places target) ≡ target

  leads_at : (target : Option Slot) → IsSet l.graph target → Leads target
  leads_at None set = absurd set
  leads_at (Some s) alive =
      let listed = live_listed l linked s alive in
      let at : slice_get l.slots listed.0 ≡ Some s = slice_get-get_or l.slots listed.0 s listed.1 ∙ ap Some listed.2 in
      let is : place_in places (Some s) ≡ listed.0 = by (own_indexes l linked) listed.0 s at in
      record {
        below = (let lt = listed.1 in omega (arith, is, lt));
        back = ap (led_by l.slots) is ∙ ap Some (get_or_from_slice_get l.slots listed.0 s (record { index = 0; generation = 0 }) at);
      }

  pub in_their_places : (leads : List ℕ) → leads ≡ map (place_in places) (all_targets l) → AreInTheirPlaces l leads
  in_their_places leads is =
      let each : All Leads (all_targets l) = All-weaker (IsSet l.graph) Leads leads_at (all_targets l) linked.targets in
      record {
        within = subst (All (λ lead. lead < length l.slots)) (sym is)
            (All-map (λ lead. lead < length l.slots) (place_in places) (all_targets l)
            (All-weaker Leads (λ target. place_in places target < length l.slots) (λ target leads. leads.below) (all_targets l) each));
        led = ap (map (led_by l.slots)) is
            ∙ map_back (led_by l.slots) (place_in places) (all_targets l)
            (All-weaker Leads (λ target. led_by l.slots (place_in places target) ≡ target) (λ target leads. leads.back) (all_targets l) each);
      }
