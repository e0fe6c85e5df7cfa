use Rattle.std.proofs.Common.{◌≤◌, length, ap, arith}
use Rattle.graph_repair.specs.Matching.{missing}
use Rattle.graph_repair.proofs.Filling.{missing_front, none_missing, missing_few}
use Rattle.graph_repair.proofs.matching.missing_in.Goals as goal

pub overflow_add-count : goal.overflow_add-count
overflow_add-count c =
    let is = ap missing c.in-Some.ensures.cases.0 in
    let front = missing_front c.in-Some.keep.now c.in-Some.more.now in
    let before = c.loop-keep.invariant in
    let one = c.one_if_none-count.ensures in
    let few = missing_few c.args.keeps.now in
    let most : length c.args.keeps.now ≤ 20000 = c.requires in omega (arith, is, front, before, one, few, most)

pub loop-keep-preserved : goal.loop-keep-preserved
loop-keep-preserved c =
    let is = ap missing c.in-Some.ensures.cases.0 in
    let front = missing_front c.in-Some.keep.now c.in-Some.more.now in
    let before = c.loop-keep.invariant in
    let one = c.one_if_none-count.ensures in omega (arith, is, front, before, one)

pub returns : goal.returns
returns c = let none = none_missing c.loop-keep.rest.now c.in_default.ensures.cases in let before = c.loop-keep.invariant in omega (arith, none, before)
