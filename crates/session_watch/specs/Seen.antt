-- What a watch is shown, and what is kept of it.
--     shown_at graph slot          what a graph shows under a slot; without a module, what stands for none
--     showing_of graph slots       the same of each of these slots, in their order
--     Grows before after more      what was seen, where it is told, has this more
--     kept_in kept                 the showings that are kept; none before the first
--     first_slot path showing      the slot of the first module with this path, if there is one
--     slot_in path showing         the same, where there is a showing
use Rattle.std.specs.Prelude.{◌≡◌, ◌++◌, ◌∷◌, [], ℕ, List, map, bytes_eq, Option, Some, None, option_map, if◌then◌else◌}
use Rattle.slot_arena.specs.Slots.{Place, value_at}
use Rattle.slot_arena.specs.declared.slot.Slot.{Slot}
use Rattle.module_graph.specs.declared.module.Module.{Module}
use Rattle.session_spec.specs.Showings.{Shown}

abbrev pub vertex_shown : Slot → Option Module → Shown
vertex_shown slot None = record { slot = slot; path = []; suffix = []; targets = [] }
vertex_shown slot (Some v) = record { slot = slot; path = v.path; suffix = v.suffix; targets = v.targets }

abbrev pub shown_at : List (Place Module) → Slot → Shown
shown_at graph slot = vertex_shown slot (value_at graph slot)

abbrev pub showing_of : List (Place Module) → List Slot → List Shown
showing_of graph slots = map (λ slot. shown_at graph slot) slots

abbrev pub Grows : Option (List (List Shown)) → Option (List (List Shown)) → List Shown → Type 0
Grows before after more = after ≡ option_map (λ earlier. earlier ++ more ∷ []) before

abbrev pub kept_in : Option (List (List Shown)) → List (List Shown)
kept_in None = []
kept_in (Some kept) = kept

abbrev pub first_slot : List ℕ → List Shown → Option Slot
first_slot path [] = None
first_slot path (v ∷ showing) = if bytes_eq v.path path then Some v.slot else first_slot path showing

abbrev pub slot_in : List ℕ → Option (List Shown) → Option Slot
slot_in path None = None
slot_in path (Some showing) = first_slot path showing
