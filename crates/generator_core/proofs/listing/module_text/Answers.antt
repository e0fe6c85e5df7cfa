use Rattle.std.proofs.Common.{sym, ◌∙◌, arith}
use Rattle.generator_core.proofs.Listings.{next_module}
use Rattle.generator_core.proofs.listing.module_text.Goals as goal

pub loop-place-preserved : goal.loop-place-preserved
loop-place-preserved c =
    let below = c.loop-place-test.true in
    let count = c.len-place-end.ensures.modules in
    next_module c.args.trace.now.gathered c.loop-place.place _ c.loop-place.text.items c.push_module.new.text.items (omega (arith, below, count)) (sym count ∙ c.len-place-end.ensures.sources) c.loop-place.invariant c.in_ok-push_module.ensures
