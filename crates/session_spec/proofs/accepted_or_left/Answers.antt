use Rattle.session_spec.proofs.Replying.{accepted_or_left as law}
use Rattle.session_spec.proofs.accepted_or_left.Goals as goal

pub returns : goal.returns
returns c = law
