use Rattle.node_spec.proofs.NodeLemmas.{same_node}
use Rattle.node_spec.proofs.same_node.Goals as goal

pub returns : goal.returns
returns c = same_node
