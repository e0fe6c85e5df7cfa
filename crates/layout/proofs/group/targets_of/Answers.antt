use Rattle.std.proofs.Common.{rules, []}
use Rattle.layout.specs.Groups.{targets_onto}
use Rattle.layout.proofs.Grouping.{targets_on}
use Rattle.layout.proofs.group.targets_of.Goals as goal

pub loop-row-preserved : goal.loop-row-preserved
loop-row-preserved c =
    targets_on (targets_onto [] c.args.rows.now) c.loop-row.targets.keys c.insert.new.self.keys c.loop-row.left.now c.in-Some.more.now c.in-Some.row.now c.in_ok-target.target c.loop-row.invariant (search rules) (search rules) (search rules)
