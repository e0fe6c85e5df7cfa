use Rattle.kept_spec.proofs.Certifying.{end_is_certified}
use Rattle.kept_spec.proofs.end_is_certified.Goals as goal

pub returns : goal.returns
returns g c = end_is_certified
