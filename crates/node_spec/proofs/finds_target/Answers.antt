use Rattle.node_spec.proofs.TargetOutcomes.{finds_target}
use Rattle.node_spec.proofs.finds_target.Goals as goal

pub returns : goal.returns
returns g c = finds_target
