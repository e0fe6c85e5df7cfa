use Rattle.kept_spec.proofs.Certifying.{seen_if_agreed}
use Rattle.kept_spec.proofs.seen_if_agreed.Goals as goal

pub returns : goal.returns
returns c = seen_if_agreed
