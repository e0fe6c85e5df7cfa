use Rattle.std.proofs.Common.{◌∙◌}
use Rattle.graph_rows.proofs.Leading.{Added, room_for_second, leads, stays}
use Rattle.graph_rows.proofs.modules.lead.Goals as goal

pub add-second-requires-clause-spare : goal.add-second-requires-clause-spare
add-second-requires-clause-spare c =
    room_for_second c.new-graph.result c.reserve.new.self c.add-from.new.self c.add-from.result c.args.first
    c.new-graph.ensures c.in_ok-reserve.ensures.ok c.add-from.ensures.fresh c.add-from.ensures.placed

pub returns-clause-target : goal.returns-clause-target
returns-clause-target c =
    let added : Added c.reserve.new.self c.add-from.new.self c.add-second.new.self c.add-from.result c.add-second.result c.args.first c.args.second = record {
      fresh_from = c.add-from.ensures.fresh;
      is_one = c.add-from.ensures.placed;
      fresh_to = c.add-second.ensures.fresh;
      is_two = c.add-second.ensures.placed;
      well_made = c.requires.first;
      asks = c.requires.asks;
    } in
    c.target_of-target.ensures
    ∙ leads c.reserve.new.self c.add-from.new.self c.add-second.new.self c.add-from.result c.add-second.result c.args.first c.args.second added
    c.connect.new.self c.connect.result c.connect.ensures

pub returns-clause-after : goal.returns-clause-after
returns-clause-after c =
    let added : Added c.reserve.new.self c.add-from.new.self c.add-second.new.self c.add-from.result c.add-second.result c.args.first c.args.second = record {
      fresh_from = c.add-from.ensures.fresh;
      is_one = c.add-from.ensures.placed;
      fresh_to = c.add-second.ensures.fresh;
      is_two = c.add-second.ensures.placed;
      well_made = c.requires.first;
      asks = c.requires.asks;
    } in
    c.target_of-after.ensures
    ∙ stays c.reserve.new.self c.add-from.new.self c.add-second.new.self c.add-from.result c.add-second.result c.args.first c.args.second added
    c.connect.new.self c.remove.new.self c.connect.result c.remove.result c.connect.ensures c.remove.ensures.value c.remove.ensures.left
