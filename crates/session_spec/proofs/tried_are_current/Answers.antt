use Rattle.session_spec.proofs.SessionLooking.{tried_are_current as law}
use Rattle.session_spec.proofs.tried_are_current.Goals as goal

pub returns : goal.returns
returns c = law
