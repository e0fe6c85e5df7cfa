use Rattle.std.proofs.Common.{◌≡◌, map, take, Some}
use Rattle.graph_repair.proofs.matching.all_left.Given as goal

-- the slots before this one
abbrev pub invariant-loop-slot : goal.invariant-loop-slot
invariant-loop-slot l = l.left.items ≡ map Some (take l.slot-index l.own)
