use Rattle.kept_spec.proofs.FrontLooks.{front_is_looked}
use Rattle.kept_spec.proofs.front_is_looked.Goals as goal

pub returns : goal.returns
returns g c = front_is_looked
