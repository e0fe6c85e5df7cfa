use Rattle.node_spec.proofs.TargetsAnswered.{target_answered}
use Rattle.node_spec.proofs.target_answered.Goals as goal

pub returns : goal.returns
returns g c = target_answered
