-- What calls on many modules at once change.
--
-- AreApart slots                    no slot stands there twice
-- IsSameElsewhere old new slots     the map from slots to modules is the same at every other slot
-- AddsAll old new modules added     each module stands under a slot of its own, in order; none of these was given
--                                   before, and nothing else changes
-- RemovesAll old new gone           none of these slots is live any more, and nothing else changes; where each was, and
--                                   stands there once, so many modules fewer
-- requests_in modules               how many requests these modules have together
-- AreLive g slots count             these slots are live, and their modules have at most so many requests
-- slot_in slots place               the slot at a place among these
-- with_targets m k targets          m with these targets, from its k-th request on
-- SetsAll old new from k targets    the module under this slot has these targets from its k-th request on
-- dealt modules targets             the modules with these targets, one to each request of theirs in their order
-- ConnectsAll old new slots targets     the modules under these slots have these targets so, and nothing else changes
use Rattle.std.specs.Prelude.{◌≡◌, ◌≢◌, ◌≤◌, ◌+◌, ⊤, ℕ, List, [], ◌∷◌, All, length, map, take, drop, get_or, Some, None}
use Rattle.slot_arena.specs.Slots.{Place, value_at, IsGiven}
use Rattle.slot_arena.specs.Counts.{spare, live}
use Rattle.slot_arena.specs.declared.slot.Slot.{Slot}
use Rattle.module_graph.specs.declared.module.Module.{Module}
use Rattle.module_graph.specs.Modules.{with_target}
use Rattle.module_graph.specs.Calls.{Calls}

abbrev pub AreApart : List Slot → Type 0
AreApart [] = ⊤
AreApart (s ∷ more) = All (λ t. t ≢ s) more × AreApart more

abbrev pub IsSameElsewhere : List (Place Module) → List (Place Module) → List Slot → Type 0
IsSameElsewhere old new slots = (s : Slot) → All (λ t. t ≢ s) slots → value_at new s ≡ value_at old s

pub record AddsAll (old new : List (Place Module)) (modules : List Module) (added : List Slot) : Type 0 where
  pub calls : Calls old new
  pub under : map (value_at new) added ≡ map Some modules
  pub apart : AreApart added
  pub never : All (λ s. IsGiven old s → ⊥) added
  pub elsewhere : IsSameElsewhere old new added
  pub less : spare new + length modules ≡ spare old
  pub more : live new ≡ live old + length modules
  pub made : length new ≡ length old

pub record RemovesAll (old new : List (Place Module)) (gone : List Slot) : Type 0 where
  pub calls : Calls old new
  pub here : All (λ s. value_at new s ≡ None) gone
  pub elsewhere : IsSameElsewhere old new gone
  pub freed : spare old ≤ spare new
  pub fewer :
      AreApart gone → All (λ s. (m : Module) × (value_at old s ≡ Some m)) gone → live new + length gone ≡ live old
  pub made : length new ≡ length old

abbrev pub slot_in : List Slot → ℕ → Slot
slot_in slots place = get_or slots place (record { index = 0; generation = 0 })

abbrev pub with_targets : Module → ℕ → List Slot → Module
with_targets m k [] = m
with_targets m k (target ∷ more) = with_targets (with_target m k target) (k + 1) more

pub record SetsAll (old new : List (Place Module)) (from : Slot) (k : ℕ) (targets : List Slot) : Type 0 where
  pub calls : Calls old new
  pub here : (m : Module) → value_at old from ≡ Some m → value_at new from ≡ Some (with_targets m k targets)
  pub elsewhere : (s : Slot) → s ≢ from → value_at new s ≡ value_at old s
  pub as_spare : spare new ≡ spare old
  pub as_live : live new ≡ live old
  pub made : length new ≡ length old

abbrev pub requests_in : List Module → ℕ
requests_in [] = 0
requests_in (m ∷ more) = length m.requests.value + requests_in more

pub record AreLive (g : List (Place Module)) (slots : List Slot) (count : ℕ) : Type 0 where
  pub modules : List Module
  pub under : map (value_at g) slots ≡ map Some modules
  pub few : requests_in modules ≤ count

abbrev pub dealt : List Module → List Slot → List Module
dealt [] targets = []
dealt (m ∷ more) targets =
    with_targets m 0 (take (length m.requests.value) targets) ∷ dealt more (drop (length m.requests.value) targets)

pub record ConnectsAll (old new : List (Place Module)) (slots : List Slot) (targets : List Slot) : Type 0 where
  pub calls : Calls old new
  pub under : (modules : List Module) → map (value_at old) slots ≡ map Some modules
      → map (value_at new) slots ≡ map Some (dealt modules targets)
  pub elsewhere : IsSameElsewhere old new slots
  pub as_spare : spare new ≡ spare old
  pub as_live : live new ≡ live old
  pub made : length new ≡ length old
