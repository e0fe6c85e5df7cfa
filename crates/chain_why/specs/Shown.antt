-- The graph of requests that a view shows (own). The page asks for the roots, a module under a slot for its targets, in
-- text order.
--     targets_of found             the slots that the requests of a module lead to, if there is one
--     targets_in places roots      what each asker asks for
--     is_at places path asker      it is a module at this path, with any suffix; never the page
--     IsSet m                      each request of the module has its target
--     AreSet places                so of each module in the view
use Rattle.std.specs.Prelude.{◌≡◌, ℕ, Bool, false, List, [], map, bytes_eq, slice_get, Option, Some, None}
use Rattle.slot_arena.specs.Slots.{Place, value_at}
use Rattle.slot_arena.specs.declared.slot.Slot.{Slot}
use Rattle.module_graph.specs.declared.module.Module.{Module}
use Rattle.chain_spec.specs.Chains.{Asker, by_page, by_module, Targets}

-- the target of a request; where none is set, any slot
abbrev pub slot_of : Option Slot → Slot
slot_of None = record { index = 0; generation = 0 }
slot_of (Some target) = target

abbrev pub targets_of : Option Module → List Slot
targets_of None = []
targets_of (Some m) = map slot_of m.targets

abbrev pub targets_in : List (Place Module) → List Slot → Targets Slot
targets_in places roots by_page = roots
targets_in places roots (by_module slot) = targets_of (value_at places slot)

abbrev pub stands_at : List ℕ → Option Module → Bool
stands_at path None = false
stands_at path (Some m) = bytes_eq m.path path

abbrev pub is_at : List (Place Module) → List ℕ → Asker Slot → Bool
is_at places path by_page = false
is_at places path (by_module slot) = stands_at path (value_at places slot)

abbrev pub IsSet : Module → Type 0
IsSet m = (number : ℕ) → slice_get m.targets number ≡ Some None → ⊥

abbrev pub AreSet : List (Place Module) → Type 0
AreSet places = (slot : Slot) (m : Module) → value_at places slot ≡ Some m → IsSet m
