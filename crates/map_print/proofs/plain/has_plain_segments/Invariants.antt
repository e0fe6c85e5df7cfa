use Rattle.std.proofs.Common.{length}
use Rattle.map_print.proofs.PlainTests.{Leads}
use Rattle.map_print.proofs.plain.has_plain_segments.Given as goal

abbrev pub invariant-loop-first : goal.invariant-loop-first
invariant-loop-first l = Leads l.fn.text l.rest

abbrev pub decreases-loop-first : goal.decreases-loop-first
decreases-loop-first l = length l.rest
