use Rattle.std.proofs.Common.{take}
use Rattle.exports_patterns.specs.Found.{keys_of}
use Rattle.exports_patterns.specs.Gathering.{HasGathered}
use Rattle.exports_patterns.proofs.keys.gather.Given as goal

abbrev pub invariant-loop-index : goal.invariant-loop-index
invariant-loop-index l = HasGathered (take l.index (keys_of l.members)) l.gathered
