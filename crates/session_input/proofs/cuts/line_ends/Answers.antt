use Rattle.session_input.proofs.CutLemmas.{ends_on}
use Rattle.session_input.proofs.cuts.line_ends.Goals as goal

pub loop-rest-preserved : goal.loop-rest-preserved
loop-rest-preserved c =
    ends_on c.args.bytes.now c.loop-rest.rest.now c.split_at.result.0.now c.split_at.result.1.now c.loop-rest.ends c.ends_within.result
    c.split_at.ensures.by_index.0 c.ends_within.ensures.ends c.loop-rest.invariant
