use Rattle.session_spec.proofs.Talking.{front_replies as law}
use Rattle.session_spec.proofs.front_replies.Goals as goal

pub returns : goal.returns
returns c = law
