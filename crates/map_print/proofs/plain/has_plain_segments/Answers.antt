use Rattle.std.proofs.Common.{sym, ◌∙◌}
use Rattle.map_print.proofs.PlainTests.{leads_on}
use Rattle.map_print.proofs.plain.has_plain_segments.Goals as goal

pub loop-first-preserved : goal.loop-first-preserved
loop-first-preserved c =
    leads_on _ c.loop-first.rest.now c.in-Some.more.now c.in-Some.first.now c.in-Some.ensures.cases.0 c.loop-first.invariant
    (sym c.goes_well.ensures ∙ c.if-not-goes_well.false)
