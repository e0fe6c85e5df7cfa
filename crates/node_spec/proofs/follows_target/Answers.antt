use Rattle.node_spec.proofs.TargetsFollowed.{follows_target}
use Rattle.node_spec.proofs.follows_target.Goals as goal

pub returns : goal.returns
returns g c = follows_target
