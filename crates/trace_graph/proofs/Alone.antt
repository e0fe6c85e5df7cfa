-- Where the slots of a list are as many as are live, no other slot is live.
use Rattle.std.proofs.Common.{◌≡◌, ◌≢◌, ◌≤◌, ◌<◌, ◌+◌, ◌⊎◌, ℕ, zero, suc, Bool, true, false, List, [], ◌∷◌, length, Some, None, Contains, refl, sym, ap, ◌∙◌, subst, inl, inr, arith}
use Rattle.std.specs.Prelude.{◌==◌, All, slice_set, if◌then◌else◌}
use Rattle.std.proofs.lemmas.Bool.{eq-eqb, eqb-true}
use Rattle.std.proofs.lemmas.List.{get_or-set_other}
use Rattle.std.proofs.lemmas.List.Elements.{All-nil, All-cons, All-head, All-tail}
use Rattle.slot_arena.specs.Counts.{fullness, fullness_of, live}
use Rattle.slot_arena.specs.Slots.{Place, place, place_at, value_at}
use Rattle.slot_arena.specs.declared.slot.Slot.{Slot}
use Rattle.slot_arena.proofs.PlaceLemmas.{live-set}
use Rattle.slot_arena.proofs.SlotLaws.{same_slot_or_not}
use Rattle.tree_spec.proofs.Contained.{contains_here, contains_there}
use Rattle.module_graph.specs.declared.module.Module as vertex
use Rattle.module_graph.specs.Many.{AreApart}
use Rattle.trace_graph.specs.Links.{Links, IsLinked, IsLive}

abbrev Places : Type 0
Places = List (Place vertex.Module)

-- what is live stands in the place of its slot, and the place gave that slot last
pub record Stands (g : Places) (s : Slot) (v : vertex.Module) : Type 0 where
  pub value : (place_at g s.index).value ≡ Some v
  pub last : (place_at g s.index).next ≡ s.generation + 1

pub stands : (g : Places) (s : Slot) (v : vertex.Module) → value_at g s ≡ Some v → Stands g s v
stands g s v e = by ((place_at g s.index).next == s.generation + 1) refl e
  where
    by : (same : Bool) → ((place_at g s.index).next == s.generation + 1) ≡ same
        → (if same then (place_at g s.index).value else None) ≡ Some v → Stands g s v
    by true is e = record { value = e; last = eqb-true (place_at g s.index).next (s.generation + 1) is }
    by false is e = absurd (cc)

live_there : (g : Places) (s : Slot) (v : vertex.Module) → Stands g s v → value_at g s ≡ Some v
live_there g s v is =
    ap (λ n. if n == s.generation + 1 then (place_at g s.index).value else None) is.last
    ∙ (ap (λ b. if b then (place_at g s.index).value else None) (eq-eqb (s.generation + 1) (s.generation + 1) refl) ∙ is.value)

full_within : (g : Places) (i : ℕ) (v : vertex.Module) → (place_at g i).value ≡ Some v → i < length g
full_within [] zero v e = absurd (cc)
full_within [] (suc i) v e = absurd (cc)
full_within (p ∷ g) zero v e = omega arith
full_within (p ∷ g) (suc i) v e = let below = full_within g i v e in omega (arith, below)

-- one place has one live slot
other_place : (g : Places) (s t : Slot) (v w : vertex.Module) → Stands g s v → Stands g t w → s ≢ t → s.index ≢ t.index
other_place g s t v w one two apart same =
    let next : s.generation + 1 ≡ t.generation + 1 = sym one.last ∙ (ap (λ i. (place_at g i).next) same ∙ two.last) in
    let generation : s.generation ≡ t.generation = omega (arith, next) in
    apart (λ i. record { index = same i; generation = generation i })

-- without one of them the others are live still
module _ (g : Places) (s : Slot) (v : vertex.Module) (is : Stands g s v) where
  within : s.index < length g
  within = full_within g s.index v is.value

  abbrev emptied : Places
  emptied = slice_set g s.index (place None (s.generation + 1))

  fewer : live emptied + 1 ≡ live g
  fewer =
      let counted = live-set g s.index (place None (s.generation + 1)) within in
      let full : fullness (place_at g s.index) ≡ 1 = ap fullness_of is.value in
      let empty : fullness_of {X = vertex.Module} None ≡ 0 = refl in
      omega (arith, counted, full, empty)

  still : (t : Slot) → t ≢ s → IsLive g t → IsLive emptied t
  still t apart alive =
      let w = alive.0 in
      let two = stands g t w alive.1 in
      let elsewhere = get_or-set_other g s.index t.index (place None (s.generation + 1)) (place None 0) (λ same. other_place g s t v w is two (λ e. apart (sym e)) (sym same)) in
      (w, live_there emptied t w (record { value = ap (λ (p : Place vertex.Module). p.value) elsewhere ∙ two.value; last = ap (λ (p : Place vertex.Module). p.next) elsewhere ∙ two.last }))

still_all : (g : Places) (s : Slot) (v : vertex.Module) (is : Stands g s v) (slots : List Slot) → All (λ t. t ≢ s) slots → All (IsLive g) slots → All (IsLive (emptied g s v is)) slots
still_all g s v is [] apart alive = All-nil (IsLive (emptied g s v is))
still_all g s v is (t ∷ slots) apart alive =
    All-cons (IsLive (emptied g s v is)) t slots
    (still g s v is t (All-head (λ t. t ≢ s) t slots apart) (All-head (IsLive g) t slots alive))
    (still_all g s v is slots (All-tail (λ t. t ≢ s) t slots apart) (All-tail (IsLive g) t slots alive))

-- slots that are apart and live are no more than are live
pub no_more : (g : Places) (slots : List Slot) → AreApart slots → All (IsLive g) slots → length slots ≤ live g
no_more g [] apart alive = omega arith
no_more g (s ∷ slots) apart alive =
    let here = All-head (IsLive g) s slots alive in
    let is = stands g s here.0 here.1 in
    let rest = no_more (emptied g s here.0 is) slots apart.1 (still_all g s here.0 is slots apart.0 (All-tail (IsLive g) s slots alive)) in
    let count = fewer g s here.0 is in
    omega (arith, rest, count)

-- it is in the list, or it is none of it
in_or_apart : (s : Slot) (slots : List Slot) → Contains slots s ⊎ All (λ t. t ≢ s) slots
in_or_apart s [] = inr (All-nil (λ t. t ≢ s))
in_or_apart s (t ∷ slots) =
    elim (same_slot_or_not t s) [
      | inl same ↦ inl (subst (Contains (t ∷ slots)) same (contains_here t slots))
      | inr other ↦ elim (in_or_apart s slots) [
        | inl there ↦ inl (contains_there s t slots there)
        | inr none ↦ inr (All-cons (λ t. t ≢ s) t slots other none)
      ]
    ]

-- each live slot is one of the trace's
pub live_listed : (l : Links) → IsLinked l → (s : Slot) → IsLive l.graph s → Contains l.slots s
live_listed l linked s alive =
    elim (in_or_apart s l.slots) [
      | inl there ↦ there
      | inr none ↦ (let many = no_more l.graph (s ∷ l.slots) (none, linked.apart) (All-cons (IsLive l.graph) s l.slots alive linked.slots) in
          let alone = linked.alone in absurd (omega (arith, many, alone)))
    ]
