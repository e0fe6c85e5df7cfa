use Rattle.std.proofs.Common.{arith}
use Rattle.generator_core.proofs.Explainings.{next_step, no_step, step_alive}
use Rattle.generator_core.proofs.explaining.push_steps.Goals as goal

pub step_at-number-requires : goal.step_at-number-requires
step_at-number-requires c =
    let below = c.loop-index-test.true in
    let count = c.len-index-end.ensures in
    omega (arith, below, count)

pub push_step-requires : goal.push_step-requires
push_step-requires c =
    step_alive c.args.trace.now.links.graph c.args.found.now c.loop-index.index c.step_at-number.result.0 c.step_at-number.result.1 c.step_at-number.ensures
    c.requires

pub loop-index-preserved : goal.loop-index-preserved
loop-index-preserved c =
    next_step c.args.trace.now.links.graph c.args.config.now.entries c.args.found.now c.loop-index.index c.step_at-number.result.0
    c.step_at-number.result.1 c.loop-index.from _ c.loop-index.text.items c.push_step.new.text.items c.step_at-number.ensures
    c.loop-index.invariant c.in_ok-push_step.ensures

pub returns : goal.returns
returns c =
    no_step c.args.trace.now.links.graph c.args.config.now.entries c.args.found.now c.loop-index.index c.loop-index.from _
    c.loop-index.text.items (omega (arith, c.len-index-end.ensures, c.loop-index-test.false)) c.loop-index.invariant
