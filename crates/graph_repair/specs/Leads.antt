-- Where the requests of a trace lead, as places in trace order.
--     place_in places target         the place of the module that a target names, by a table
--     AreByPlace slots places        the table has to each of these slots its place among them, under its index, where no
--                                    two have one index
--     targets_under graph s          the targets of the module under a slot
--     AreInTheirPlaces l leads       to each request of the trace's modules the place of the module to which it leads
use Rattle.std.specs.Prelude.{◌≡◌, ◌<◌, ℕ, List, All, length, map, get_or, slice_get, Option, Some, None}
use Rattle.slot_arena.specs.Slots.{Place, value_at}
use Rattle.slot_arena.specs.declared.slot.Slot.{Slot}
use Rattle.module_graph.specs.declared.module.Module as vertex
use Rattle.trace_graph.specs.Links.{Links, targets_in, all_targets}
use Rattle.graph_repair.specs.Repairs.{led_by}

abbrev pub place_in : List ℕ → Option Slot → ℕ
place_in places None = 0
place_in places (Some s) = get_or places s.index 0

abbrev pub HasOwnIndexes : List Slot → Type 0
HasOwnIndexes slots =
    (i j : ℕ) (s t : Slot) → slice_get slots i ≡ Some s → slice_get slots j ≡ Some t → s.index ≡ t.index → i ≡ j

abbrev pub AreByPlace : List Slot → List ℕ → Type 0
AreByPlace slots places =
    HasOwnIndexes slots → (i : ℕ) (s : Slot) → slice_get slots i ≡ Some s → place_in places (Some s) ≡ i

abbrev pub targets_under : List (Place vertex.Module) → Slot → List (Option Slot)
targets_under graph s = targets_in (value_at graph s)

pub record AreInTheirPlaces (l : Links) (leads : List ℕ) : Type 0 where
  pub within : All (λ lead. lead < length l.slots) leads
  pub led : map (led_by l.slots) leads ≡ all_targets l
