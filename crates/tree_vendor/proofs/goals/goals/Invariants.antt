use Rattle.std.proofs.Common.{take}
use Rattle.tree_vendor.specs.Planning.{AreGoals}
use Rattle.tree_vendor.proofs.goals.goals.Given as goal

abbrev pub invariant-loop-path : goal.invariant-loop-path
invariant-loop-path l = AreGoals l.fn.known l.fn.to (take l.path-index l.fn.footprint) l.goals
