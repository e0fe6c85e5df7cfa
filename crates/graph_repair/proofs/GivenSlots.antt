-- A slot that was given stays so, whatever is done with a graph.
use Rattle.std.proofs.Common.{List}
use Rattle.slot_arena.specs.Slots.{Place, IsGiven}
use Rattle.slot_arena.specs.Calls as arena
use Rattle.slot_arena.specs.declared.slot.Slot.{Slot}
use Rattle.slot_arena.proofs.SlotLaws.{given_once}
use Rattle.module_graph.specs.declared.module.Module.{Module}
use Rattle.module_graph.specs.Modules.{with_target}
use Rattle.module_graph.specs.Calls.{Calls, begin, reserved, added, connected, removed}

arena_calls : (g h : List (Place Module)) → Calls g h → arena.Calls g h
arena_calls g h begin = arena.begin
arena_calls g h (reserved {g = c} n calls) = arena.reserved n (arena_calls g c calls)
arena_calls g h (added {g = c} s m fresh calls) = arena.inserted s m fresh (arena_calls g c calls)
arena_calls g h (connected {g = c} s m i to is calls) = arena.written s m (with_target m i to) is (arena_calls g c calls)
arena_calls g h (removed {g = c} s m is calls) = arena.removed s m is (arena_calls g c calls)

pub stays_given : (g h : List (Place Module)) (s : Slot) → Calls g h → IsGiven g s → IsGiven h s
stays_given g h s calls given = (given_once Module).stays g h s given (arena_calls g h calls)
