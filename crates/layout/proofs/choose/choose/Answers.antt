use Rattle.std.proofs.Common.{rules, ◌≤◌, length}
use Rattle.layout.specs.Laid.{laid_map}
use Rattle.layout.proofs.Choosing.{none_chosen, next_chosen, all_chosen}
use Rattle.place_nodes.proofs.Steps.{no_more}
use Rattle.layout.proofs.choose.choose.Goals as goal
use Rattle.layout.proofs.choose.choose.Goals.{in-Some+in_default-node_at, in_default}
use mathlib.Core.Logic.{inl, inr}

pub loop-row-init : goal.loop-row-init
loop-row-init c = none_chosen c.args.nodes.now c.args.asked.now c.args.targets.now c.args.own c.args.rows.items (laid_map c.args.laid.now) c.new-values.result.items (search rules)

pub loop-row-preserved : goal.loop-row-preserved
loop-row-preserved c =
    next_chosen c.args.nodes.now c.args.asked.now c.args.targets.now c.args.own c.args.rows.items (laid_map c.args.laid.now) c.loop-row.values.items c.push.new.self.items c.loop-row.left.items c.pop.new.self.items c.in-Some.row
    (laid_map c.loop-row.laid) (laid_map c.lay_at.new.laid) c.in-Some-node_at.node.now c.len.result c.number_from-from.result c.in_ok-value.value c.choice_at-choice.result c.loop-row.invariant
    (search rules) (search rules) (search rules) (search rules) (search rules) (search rules) (search rules)

pub returns : goal.returns
returns c =
    all_chosen c.args.nodes.now c.args.asked.now c.args.targets.now c.args.own c.args.rows.items (laid_map c.args.laid.now) c.loop-row.values.items c.loop-row.left.items (laid_map c.loop-row.laid) c.loop-row.invariant
    (elim c.match-pop.branch [
      | in-Some+in_default-node_at w ↦ inr (let n : length c.args.nodes.now ≤ w.len.result = no_more c.args.nodes.now w.len.result (search rules) in search rules)
      | in_default w ↦ inl (search rules)
    ])
