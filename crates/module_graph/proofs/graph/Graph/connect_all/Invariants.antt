use Rattle.std.proofs.Common.{◌<◌, List, length, map}
use Rattle.std.specs.Prelude.{All}
use Rattle.slot_arena.specs.Slots.{Place}
use Rattle.module_graph.specs.declared.module.Module.{Module}
use Rattle.module_graph.specs.Many.{AreApart, AreLive, ConnectsAll, slot_in}
use Rattle.module_graph.proofs.graph.Graph.connect_all.Given as goal

-- connecting the rest connects all, and there are the modules and the targets for it
abbrev pub invariant-loop-from : goal.invariant-loop-from
invariant-loop-from l = record {
  completes : (new : List (Place Module)) → ConnectsAll l.self new l.rest (map (slot_in l.slots) l.left) → ConnectsAll l.fn.self new l.slots (map (slot_in l.slots) l.leads);
  live : AreLive l.self l.rest (length l.left);
  apart : AreApart l.rest;
  within : All (λ lead. lead < length l.slots) l.left;
}

abbrev pub decreases-loop-from : goal.decreases-loop-from
decreases-loop-from l = length l.rest
