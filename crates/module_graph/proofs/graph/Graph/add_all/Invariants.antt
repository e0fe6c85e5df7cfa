use Rattle.std.proofs.Common.{◌≡◌, ◌≤◌, ◌+◌, ◌++◌, List, reverse}
use Rattle.std.specs.Prelude.{All, vec_len, vec_capacity}
use Rattle.slot_arena.specs.Slots.{Place}
use Rattle.slot_arena.specs.Counts.{spare}
use Rattle.slot_arena.specs.declared.slot.Slot.{Slot}
use Rattle.module_graph.specs.declared.module.Module.{Module}
use Rattle.module_graph.specs.Modules.{IsModule}
use Rattle.module_graph.specs.Many.{AddsAll}
use Rattle.module_graph.proofs.graph.Graph.add_all.Given as goal

-- adding what waits adds all, and there is room for it
abbrev pub invariant-loop-module : goal.invariant-loop-module
invariant-loop-module l = record {
  added : List Slot;
  slots : l.slots.items ≡ l.fn.slots.items ++ added;
  completes : (new : List (Place Module)) (more : List Slot) → AddsAll l.self new (reverse l.waiting.items) more → AddsAll l.fn.self new (reverse l.fn.modules.items) (added ++ more);
  spare : vec_len l.waiting ≤ spare l.self;
  well_made : All IsModule l.waiting.items;
  room : vec_len l.slots + vec_len l.waiting ≤ vec_capacity l.slots;
}

abbrev pub decreases-loop-module : goal.decreases-loop-module
decreases-loop-module l = goal.left-loop-module l
