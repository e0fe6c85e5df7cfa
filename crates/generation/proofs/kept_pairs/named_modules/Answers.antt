use Rattle.std.proofs.Common.{◌<◌, length, sym, ◌∙◌, subst}
use Rattle.generation.proofs.Pairings.{one_named}
use Rattle.generation.proofs.kept_pairs.named_modules.Goals as goal

pub loop-place-preserved : goal.loop-place-preserved
loop-place-preserved c =
    one_named c.args.config.now c.args.trace.now.gathered.modules c.args.trace.now.gathered.sources c.loop-place.place c.loop-place.all.items c.add.new.all.items
    (subst (λ n. c.loop-place.place < n) c.len-place-end.ensures.modules c.loop-place-test.true) (sym c.len-place-end.ensures.modules ∙ c.len-place-end.ensures.sources) c.loop-place.invariant c.in_ok-add.ensures
