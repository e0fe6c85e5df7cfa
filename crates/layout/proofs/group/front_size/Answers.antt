use Rattle.std.proofs.Common.{rules}
use Rattle.layout.proofs.Grouping.{taken_more, taken_until, taken_all}
use Rattle.layout.proofs.group.front_size.Goals as goal

pub returns-then-ne : goal.returns-then-ne
returns-then-ne c = taken_until c.args.asked.now c.args.rows.now c.loop-row.left.now c.in-Some.more.now c.loop-row.size c.in-Some.row.now c.loop-row.invariant (search rules) (search rules)

pub loop-row-preserved : goal.loop-row-preserved
loop-row-preserved c = taken_more c.args.asked.now c.args.rows.now c.loop-row.left.now c.in-Some.more.now c.loop-row.size c.in-Some.row.now c.loop-row.invariant (search rules) (search rules)

pub returns : goal.returns
returns c = taken_all c.args.asked.now c.args.rows.now c.loop-row.left.now c.loop-row.size c.loop-row.invariant (search rules)
