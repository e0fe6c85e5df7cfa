use Rattle.std.proofs.Common.{rules}
use Rattle.layout.proofs.Grouping.{only_on, only_done}
use Rattle.layout.proofs.group.is_only_target.Goals as goal

pub loop-row-preserved : goal.loop-row-preserved
loop-row-preserved c = only_on c.args.target.now c.args.rows.now c.loop-row.left.now c.in-Some.more.now c.in-Some.row.now c.loop-row.invariant (search rules) (search rules)

pub returns : goal.returns
returns c = λ holds need at. only_done c.args.target.now c.args.rows.now c.loop-row.left.now c.loop-row.invariant (search rules) need at
