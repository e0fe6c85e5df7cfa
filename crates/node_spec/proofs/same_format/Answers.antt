use Rattle.node_spec.proofs.NodeLemmas.{same_format}
use Rattle.node_spec.proofs.same_format.Goals as goal

pub returns : goal.returns
returns c = same_format
