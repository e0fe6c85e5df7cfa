use Rattle.std.proofs.Common.{◌∙◌, sym}
use Rattle.ordered_json.proofs.NamesLemmas.{distinct_before, distinct_at_end}
use Rattle.ordered_json.proofs.settling.few_are_distinct.Goals as goal

pub loop-pair-preserved : goal.loop-pair-preserved
loop-pair-preserved c = λ distinct.
    c.loop-pair.invariant
    (distinct_before c.in-Some.pair.now c.loop-pair.rest.now c.in-Some.more.now c.in-Some.ensures.cases.0
    (sym c.has_name.ensures ∙ c.if-has_name.false) distinct)

pub returns : goal.returns
returns c = λ t. c.loop-pair.invariant (distinct_at_end c.loop-pair.rest.now c.in_default.ensures.cases)
