use Rattle.session_spec.proofs.Renewals.{renewals_are_rare as law}
use Rattle.session_spec.proofs.renewals_are_rare.Goals as goal

pub returns : goal.returns
returns c = law
