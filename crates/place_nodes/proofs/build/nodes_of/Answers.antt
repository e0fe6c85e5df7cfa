use Rattle.std.proofs.Common.{rules}
use Rattle.std.specs.Prelude.{option_copied}
use Rattle.place_nodes.proofs.Finding.{way_starts, way_can, way_on, way_done}
use Rattle.place_nodes.proofs.TooMany.{way_over, none_over}
use Rattle.place_nodes.proofs.build.nodes_of.Goals as goal

pub loop-row-init : goal.loop-row-init
loop-row-init c = (
  way_starts c.args.rows.now c.args.rows.now c.args.targets.now c.new-nodes.result.items (search rules) (search rules) c.requires.turn c.requires.there,
  none_over c.new-nodes.result.items c.args.width (search rules),
)

pub add_row-requires : goal.add_row-requires
add_row-requires c = way_can c.args.rows.now c.loop-row.left.now c.in-Some.more.now c.args.targets.now c.loop-row.nodes.items (option_copied c.loop-row.last) c.in-Some.row.now c.loop-row.invariant.0 (search rules)

pub returns-then-is_over : goal.returns-then-is_over
returns-then-is_over c =
    way_over c.args.rows.now c.in-Some.more.now c.args.targets.now c.add_row.new.nodes.items _ c.args.width
    (way_on c.args.rows.now c.loop-row.left.now c.in-Some.more.now c.args.targets.now c.loop-row.nodes.items c.add_row.new.nodes.items (option_copied c.loop-row.last) c.in-Some.row.now c.loop-row.invariant.0 (search rules) (c.in_ok-add_row.ensures))
    (search rules)

pub loop-row-preserved : goal.loop-row-preserved
loop-row-preserved c = (
  way_on c.args.rows.now c.loop-row.left.now c.in-Some.more.now c.args.targets.now c.loop-row.nodes.items c.add_row.new.nodes.items (option_copied c.loop-row.last) c.in-Some.row.now c.loop-row.invariant.0 (search rules) (c.in_ok-add_row.ensures),
  search rules,
)

pub returns : goal.returns
returns c = (way_done c.args.rows.now c.loop-row.left.now c.args.targets.now c.loop-row.nodes.items (option_copied c.loop-row.last) c.loop-row.invariant.0 (search rules), c.loop-row.invariant.1)
