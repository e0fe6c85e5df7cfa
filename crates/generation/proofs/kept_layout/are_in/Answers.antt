use Rattle.std.proofs.Common.{rules}
use Rattle.generation.proofs.KeptNeeds.{got, one_same, all_same}
use Rattle.generation.proofs.kept_layout.are_in.Goals as goal

pub loop-place-preserved : goal.loop-place-preserved
loop-place-preserved c =
    one_same c.args.kept.now c.args.needs.now c.loop-place.place c.index-kept-place.result
    (got c.args.kept.now c.loop-place.place c.index-kept-place.result c.loop-place-test.true c.index-kept-place.is)
    (search rules) c.loop-place.invariant

pub returns : goal.returns
returns c = λ _. all_same c.args.kept.now c.args.needs.now c.loop-place.place c.requires c.loop-place-test.false c.loop-place.invariant
