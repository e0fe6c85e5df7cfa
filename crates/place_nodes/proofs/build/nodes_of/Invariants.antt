use Rattle.std.proofs.Common.{length}
use Rattle.std.specs.Prelude.{option_copied}
use Rattle.place_nodes.specs.Building.{IsOver}
use Rattle.place_nodes.proofs.Finding.{IsOnWay}
use Rattle.place_nodes.proofs.build.nodes_of.Given as goal

abbrev pub invariant-loop-row : goal.invariant-loop-row
invariant-loop-row l = IsOnWay l.fn.rows l.fn.targets l.nodes.items (option_copied l.last) l.left × (IsOver (length l.nodes.items) l.fn.width → ⊥)

abbrev pub decreases-loop-row : goal.decreases-loop-row
decreases-loop-row l = length l.left
