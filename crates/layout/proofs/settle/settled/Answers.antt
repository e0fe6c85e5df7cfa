use Rattle.std.proofs.Common.{rules}
use Rattle.layout.proofs.Settling.{none_more, next_settled, fewer_open}
use Rattle.layout.proofs.settle.settled.Goals as goal

pub loop-costs-init : goal.loop-costs-init
loop-costs-init c = none_more c.args.nodes.now c.args.width c.in_ok-open.open.items c.in_ok-rows.rows.items (search rules) (search rules)

pub loop-costs-smaller : goal.loop-costs-smaller
loop-costs-smaller c = fewer_open c.loop-costs.open.items c.pop.new.self.items c.charge.new.open.items c.in-Some.costs c.in_ok-row.row c.in-Some-node_at.node.now.above (search rules) (search rules)

pub loop-costs-preserved : goal.loop-costs-preserved
loop-costs-preserved c =
    next_settled c.args.nodes.now c.args.width c.len.result c.loop-costs.open.items c.pop.new.self.items c.charge.new.open.items c.loop-costs.rows.items c.push.new.self.items c.in-Some.costs c.in_ok-row.row c.in-Some-node_at.node.now c.loop-costs.invariant
    (search rules) (search rules) (search rules) (search rules) (search rules) (search rules)
