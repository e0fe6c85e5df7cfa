use Rattle.std.proofs.Common.{◌≡◌, ◌≤◌, ◌-◌, List, length, map, drop, Some}
use Rattle.slot_arena.specs.Slots.{Place, value_at}
use Rattle.module_graph.specs.declared.module.Module.{Module}
use Rattle.module_graph.specs.Many.{SetsAll, slot_in}
use Rattle.module_graph.proofs.graph.Graph.set_all.Given as goal

-- setting the rest sets all, and the module has the requests for it
abbrev pub invariant-loop-request : goal.invariant-loop-request
invariant-loop-request l = record {
  completes : (new : List (Place Module)) → SetsAll l.self new l.from l.request (map (slot_in l.slots) (drop l.request l.leads)) → SetsAll l.fn.self new l.from 0 (map (slot_in l.slots) l.leads);
  live : (m : Module) × (value_at l.self l.from ≡ Some m) × (length l.leads ≤ length m.requests.value);
}

abbrev pub decreases-loop-request : goal.decreases-loop-request
decreases-loop-request l = length l.leads - l.request
