use Rattle.kept_spec.proofs.FrontLooks.{front_goes_before}
use Rattle.kept_spec.proofs.front_goes_before.Goals as goal

pub returns : goal.returns
returns g c = front_goes_before
