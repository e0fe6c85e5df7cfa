use Rattle.session_spec.proofs.Replying.{one_reply as law}
use Rattle.session_spec.proofs.one_reply.Goals as goal

pub returns : goal.returns
returns c = law
