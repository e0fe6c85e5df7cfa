use Rattle.node_spec.proofs.examples.NodeExamples.{node_examples}
use Rattle.node_spec.proofs.node_examples.Goals as goal

pub returns : goal.returns
returns c = node_examples
