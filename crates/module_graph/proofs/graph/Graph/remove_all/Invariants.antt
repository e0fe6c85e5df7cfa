use Rattle.std.proofs.Common.{List, length}
use Rattle.slot_arena.specs.Slots.{Place}
use Rattle.module_graph.specs.declared.module.Module.{Module}
use Rattle.module_graph.specs.Many.{RemovesAll}
use Rattle.module_graph.proofs.graph.Graph.remove_all.Given as goal

-- removing the rest removes all
abbrev pub invariant-loop-at : goal.invariant-loop-at
invariant-loop-at l = (new : List (Place Module)) → RemovesAll l.self new l.rest → RemovesAll l.fn.self new l.gone

abbrev pub decreases-loop-at : goal.decreases-loop-at
decreases-loop-at l = length l.rest
