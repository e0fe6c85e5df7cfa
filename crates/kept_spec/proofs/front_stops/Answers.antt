use Rattle.kept_spec.proofs.FrontLooks.{front_stops}
use Rattle.kept_spec.proofs.front_stops.Goals as goal

pub returns : goal.returns
returns g c = front_stops
