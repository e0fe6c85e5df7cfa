use Rattle.std.proofs.Common.{length}
use Rattle.place_nodes.proofs.Finding.{IsSought}
use Rattle.place_nodes.proofs.build.number_of.Given as goal

abbrev pub invariant-loop-first : goal.invariant-loop-first
invariant-loop-first l = IsSought l.fn.texts l.fn.text l.number l.left

abbrev pub decreases-loop-first : goal.decreases-loop-first
decreases-loop-first l = length l.left
