use Rattle.kept_spec.proofs.Freshening.{other_is_changed}
use Rattle.kept_spec.proofs.other_is_changed.Goals as goal

pub returns : goal.returns
returns g c = other_is_changed
