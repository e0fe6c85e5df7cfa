use Rattle.node_spec.proofs.NodeConditions.{node_conditions_are_a_set}
use Rattle.node_spec.proofs.node_conditions_are_a_set.Goals as goal

pub returns : goal.returns
returns c = node_conditions_are_a_set
