use Rattle.kept_spec.proofs.Freshening.{unchanged_is_same}
use Rattle.kept_spec.proofs.unchanged_is_same.Goals as goal

pub returns : goal.returns
returns g c = unchanged_is_same
