use Rattle.std.proofs.Common.{sym, ◌∙◌, arith}
use Rattle.generator_core.proofs.Strictnesses.{next_module, no_modules}
use Rattle.generator_core.proofs.strictness.push_strict.Goals as goal

pub loop-place-init : goal.loop-place-init
loop-place-init g c = (no_modules c.args.trace.now.gathered c.args.lines.now, omega arith)

pub loop-place-preserved : goal.loop-place-preserved
loop-place-preserved g c =
    let count = c.len-place-end.ensures in
    let below = c.loop-place-test.true in
    let modules = count.modules in
    let spent = c.loop-place.invariant.1 in
    let cost = c.push_module.ensures.cost in (
      next_module c.args.trace.now.gathered c.loop-place.place c.args.lines.now c.loop-place.lines c.push_module.new.lines
          c.push_module.result (sym count.modules ∙ count.sources) (omega (arith, below, modules)) c.loop-place.invariant.0
          c.push_module.ensures.pushes c.in-Ok.is,
      omega (arith, spent, cost),
    )
