use Rattle.std.proofs.Common.{◌≡◌, ◌+◌, length}
use Rattle.graph_repair.specs.Matching.{missing}
use Rattle.graph_repair.proofs.matching.missing_in.Given as goal

-- how many so far, and how many that come
abbrev pub invariant-loop-keep : goal.invariant-loop-keep
invariant-loop-keep l = l.count + missing l.rest ≡ missing l.keeps

abbrev pub decreases-loop-keep : goal.decreases-loop-keep
decreases-loop-keep l = length l.rest
