use Rattle.std.proofs.Common.{rules}
use Rattle.package_record.proofs.LeftLemmas.{left_more}
use Rattle.package_record.proofs.left.each_left.Goals as goal

pub loop-pair-preserved : goal.loop-pair-preserved
loop-pair-preserved c =
    left_more c.args.conditions.now c.args.imports c.args.pairs.now c.loop-pair.made.items c.push.new.self.items
    c.loop-pair.pair-index c.pair-item.result c.in_ok-target.target c.loop-pair-test.true c.pair-item.is (search rules)
    c.loop-pair.invariant c.in_ok-target.ensures
