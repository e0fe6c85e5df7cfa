use Rattle.std.proofs.Common.{◌≡◌, take}
use Rattle.place_nodes.proofs.rows.copied.Given as goal

abbrev pub invariant-loop-index : goal.invariant-loop-index
invariant-loop-index l = l.rows.items ≡ take l.index l.fn.needs
