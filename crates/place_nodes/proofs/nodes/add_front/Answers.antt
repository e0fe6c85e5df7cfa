use Rattle.std.proofs.Common.{rules}
use Rattle.place_nodes.proofs.Growing.{front_ready}
use Rattle.place_nodes.proofs.nodes.add_front.Goals as goal

pub add_node-requires : goal.add_node-requires
add_node-requires c = front_ready c.args.nodes.now.items c.args.referrer.now c.in-Some.front.now c.args.size c.requires.ready c.requires.within (search rules)
