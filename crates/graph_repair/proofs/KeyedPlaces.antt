-- The places of modules by their paths and suffixes.
--     key_more, keys_all      one place more in the table, and all
use Rattle.std.proofs.Common.{◌≡◌, ◌≤◌, ◌<◌, ◌+◌, ℕ, Bool, true, false, if◌then◌else◌, List, length, Option, Some, refl, sym, ap, ◌∙◌, subst, inl, inr, arith}
use Rattle.std.specs.Prelude.{All, slice_get}
use Rattle.std.proofs.lemmas.Option.{slice_get_within, get_or_from_slice_get}
use Rattle.slot_arena.specs.Slots.{Place, value_at}
use Rattle.slot_arena.specs.declared.slot.Slot.{Slot}
use Rattle.slot_arena.proofs.Times.{below_or_not}
use Rattle.module_graph.specs.declared.module.Module as vertex
use Rattle.trace_spec.specs.Modules.{Module, is_module}
use Rattle.trace_spec.proofs.Lists.{same_module, module_itself}
use Rattle.trace_graph.specs.Links.{IsLive, module_of, module_in}
use Rattle.graph_repair.specs.Matching.{AreOnce}
use Rattle.graph_repair.specs.Finding.{names, AreByKey}
use Rattle.graph_repair.proofs.FoundModules.{name_at}

abbrev Vertex : Type 0
Vertex = vertex.Module

abbrev Places : Type 0
Places = List (Place Vertex)

-- the places before this one are in the table
abbrev pub AreBefore : Places → List Slot → (Module → Option ℕ) → ℕ → Type 0
AreBefore g slots find p =
    AreOnce (names g slots) → (i : ℕ) (s : Slot) (v : Vertex) → i < p → slice_get slots i ≡ Some s → value_at g s ≡ Some v → find (module_of v) ≡ Some i

abbrev pub Puts : Places → Slot → ℕ → (Module → Option ℕ) → (Module → Option ℕ) → Type 0
Puts g s p find after =
    (v : Vertex) → value_at g s ≡ Some v → (m : Module) → after m ≡ (if is_module (module_of v) m then Some p else find m)

other_key : (one m : Module) (p : ℕ) (found : Option ℕ) (b : Bool) → is_module one m ≡ b → (one ≡ m → ⊥) → (if b then Some p else found) ≡ found
other_key one m p found true is apart = absurd (apart (same_module one m is))
other_key one m p found false is apart = refl

pub key_more : (g : Places) (slots : List Slot) (find after : Module → Option ℕ) (p : ℕ) (s : Slot) → slice_get slots p ≡ Some s → All (IsLive g) slots → Puts g s p find after
    → AreBefore g slots find p → AreBefore g slots after (p + 1)
key_more g slots find after p s here alive puts before once i t w below at is =
    let live : IsLive g s = subst (IsLive g) (get_or_from_slice_get slots p s s here) (alive p s (slice_get_within slots p s here)) in
    let v = live.0 in
    elim (below_or_not i p) [
      | inl lt ↦ puts live.0 live.1 (module_of w)
          ∙ (other_key (module_of live.0) (module_of w) p (find (module_of w)) (is_module (module_of live.0) (module_of w)) refl
          (λ same. (let one : i ≡ p =
          once i p (module_of w) (name_at g slots i t at ∙ ap Some (ap module_in is)) (name_at g slots p s here ∙ (ap Some (ap module_in live.1) ∙ ap Some same)) in
          omega (arith, one, lt)))
          ∙ before once i t w lt at is)
      | inr past ↦ (let one : i ≡ p = omega (arith, below, past) in
          let both : Some t ≡ Some s = sym at ∙ (ap (slice_get slots) one ∙ here) in
          let slot : t ≡ s = cc in
          let values : Some w ≡ Some live.0 = sym is ∙ (ap (value_at g) slot ∙ live.1) in
          let same : w ≡ live.0 = cc in
          ap (λ x. after (module_of x)) same
          ∙ (puts live.0 live.1 (module_of live.0)
          ∙ (ap (λ b. if b then Some p else find (module_of live.0)) (module_itself (module_of live.0)) ∙ ap Some (sym one))))
    ]

pub keys_all : (g : Places) (slots : List Slot) (find : Module → Option ℕ) (p : ℕ) → length slots ≤ p → AreBefore g slots find p → AreByKey g slots find
keys_all g slots find p past before once i s v at is =
    before once i s v (let within = slice_get_within slots i s at in omega (arith, within, past)) at is
