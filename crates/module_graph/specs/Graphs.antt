-- What a contract sees of a graph: the places of its arena.
--
-- AreModules g                  each module in it is well made
-- Connects old new from i to done     done, and the target of the i-th request of the module under `from` is set; or
-- there is
--                               no such module or request, and nothing changes
use Rattle.std.specs.Prelude.{◌≡◌, ℕ, ◌<◌, ◌≤◌, Bool, true, false, List, length, Some}
use Rattle.slot_arena.specs.Slots.{Place, place_at, value_at, set_at}
use Rattle.slot_arena.specs.declared.slot.Slot.{Slot}
use Rattle.module_graph.specs.declared.module.Module.{Module}
use Rattle.module_graph.specs.Modules.{IsModule, with_target}

abbrev pub AreModules : List (Place Module) → Type 0
AreModules g = (i : ℕ) (m : Module) → (place_at g i).value ≡ Some m → IsModule m

abbrev pub Connects : List (Place Module) → List (Place Module) → Slot → ℕ → Slot → Bool → Type 0
Connects old new from i to true =
    (m : Module) × (value_at old from ≡ Some m) × (i < length m.requests.value)
    × (new ≡ set_at old from (Some (with_target m i to)))
Connects old new from i to false =
    (new ≡ old) × ((m : Module) → value_at old from ≡ Some m → length m.requests.value ≤ i)
