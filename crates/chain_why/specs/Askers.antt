-- Those who ask, as the code holds them.
--     asks asker                       the slots that its requests lead to
--     asked_at places roots keys place     the slots that the asker at a place asks for: the page, and behind it the
--                                          modules that were reached
--     IsWhole asker                    each of its requests has its target
use Rattle.std.specs.Prelude.{◌≡◌, ⊤, ℕ, zero, suc, List, [], slice_get, Option, Some, None}
use Rattle.slot_arena.specs.Slots.{value_at}
use Rattle.slot_arena.specs.Slots as arena
use Rattle.slot_arena.specs.declared.slot.Slot.{Slot}
use Rattle.module_graph.specs.declared.module.Module.{Module}
use Rattle.chain_why.specs.declared.asker.Asker.{Asker}
use Rattle.chain_why.specs.declared.asker.Asker.TheVariants.{Page, Loaded}
use Rattle.chain_why.specs.declared.reached.Reached.{Reached}
use Rattle.chain_why.specs.Shown.{targets_of, IsSet}

abbrev pub asks : Asker → List Slot
asks (Page roots) = roots.now
asks (Loaded found) = targets_of found

abbrev pub IsWhole : Asker → Type 0
IsWhole (Page roots) = ⊤
IsWhole (Loaded found) = (m : Module) → found ≡ Some m → IsSet m

abbrev pub asked_by : List (arena.Place Module) → Option Reached → List Slot
asked_by places None = []
asked_by places (Some reached) = targets_of (value_at places reached.slot)

abbrev pub asked_at : List (arena.Place Module) → List Slot → List Reached → ℕ → List Slot
asked_at places roots keys zero = roots
asked_at places roots keys (suc index) = asked_by places (slice_get keys index)
