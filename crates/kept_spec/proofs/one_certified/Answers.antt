use Rattle.kept_spec.proofs.Certifying.{one_certified}
use Rattle.kept_spec.proofs.one_certified.Goals as goal

pub returns : goal.returns
returns g c = one_certified
