use Rattle.std.proofs.Common.{rules}
use Rattle.place_nodes.proofs.Growing.{next_front, whole_known, grown_at}
use Rattle.place_nodes.proofs.nodes.add_places.Goals as goal

pub loop-size-preserved : goal.loop-size-preserved
loop-size-preserved c = record {
  from = search rules;
  within = search rules;
  growing = next_front c.args.nodes.now.items c.loop-size.nodes.items c.add_front.new.nodes.items c.args.referrer.now c.args.from c.loop-size.size c.requires.ready c.loop-size.invariant.from c.loop-size.invariant.growing c.loop-size-test.true (search rules) (search rules);
}

pub add_node-requires : goal.add_node-requires
add_node-requires c = whole_known c.loop-size.nodes.items c.args.referrer.now c.loop-size.size c.loop-size.invariant.growing.ready (search rules)

pub returns : goal.returns
returns c = grown_at _ c.args.nodes.now.items c.args.referrer.now c.loop-size.size c.args.own c.loop-size.nodes.items c.add_node.new.nodes.items c.add_node.result c.loop-size.invariant.growing (search rules) c.add_node.ensures
