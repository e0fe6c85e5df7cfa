use Rattle.node_spec.proofs.NodeLemmas.{relative_node}
use Rattle.node_spec.proofs.relative_node.Goals as goal

pub returns : goal.returns
returns c = relative_node
