use Rattle.session_spec.proofs.SessionLooking.{looks_stay as law}
use Rattle.session_spec.proofs.looks_stay.Goals as goal

pub returns : goal.returns
returns c = law
