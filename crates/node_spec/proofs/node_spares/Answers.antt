use Rattle.node_spec.proofs.SparedResolutions.{node_spares}
use Rattle.node_spec.proofs.node_spares.Goals as goal

pub returns : goal.returns
returns c = node_spares
