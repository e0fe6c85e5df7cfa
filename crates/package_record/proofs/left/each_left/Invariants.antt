use Rattle.std.proofs.Common.{take}
use Rattle.package_record.specs.Targets.{AreLeft}
use Rattle.package_record.proofs.left.each_left.Given as goal

abbrev pub invariant-loop-pair : goal.invariant-loop-pair
invariant-loop-pair l = AreLeft l.fn.conditions l.fn.imports (take l.pair-index l.pairs) l.made.items
