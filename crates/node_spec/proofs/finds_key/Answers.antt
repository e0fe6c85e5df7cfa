use Rattle.node_spec.proofs.KeyChoice.{finds_key}
use Rattle.node_spec.proofs.finds_key.Goals as goal

pub returns : goal.returns
returns c = finds_key
