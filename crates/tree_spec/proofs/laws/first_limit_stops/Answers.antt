use Rattle.tree_spec.proofs.LimitedLooks.{first_limit_stops}
use Rattle.tree_spec.proofs.laws.first_limit_stops.Goals as goal

pub returns : goal.returns
returns g c = first_limit_stops
