use Rattle.session_spec.proofs.Replying.{accepted_join as law}
use Rattle.session_spec.proofs.accepted_join.Goals as goal

pub returns : goal.returns
returns c = law
