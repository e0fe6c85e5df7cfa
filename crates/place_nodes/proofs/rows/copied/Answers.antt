use Rattle.std.proofs.Common.{rules, ◌≤◌, length}
use Rattle.place_nodes.proofs.Sorting.{one_copied, all_copied}
use Rattle.place_nodes.proofs.Steps.{no_more}
use Rattle.place_nodes.proofs.rows.copied.Goals as goal
use Rattle.place_nodes.proofs.rows.copied.Goals.{else-loop-index-test, then-loop-index-test+in_default}

pub loop-index-preserved : goal.loop-index-preserved
loop-index-preserved c =
    one_copied c.args.needs.now c.loop-index.rows.items c.push.new.self.items c.loop-index.index c.in-Some.need.now (search rules) c.loop-index.invariant (search rules)

pub returns : goal.returns
returns c =
    let past : length c.args.needs.now ≤ c.loop-index.index =
    elim c.loop-index-test.branch [
      | else-loop-index-test w ↦ search rules
      | then-loop-index-test+in_default w ↦ no_more c.args.needs.now c.loop-index.index (search rules)
    ] in
    all_copied c.args.needs.now c.loop-index.rows.items c.loop-index.index past c.loop-index.invariant
