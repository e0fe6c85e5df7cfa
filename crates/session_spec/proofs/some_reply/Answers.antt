use Rattle.session_spec.proofs.SomeAnswer.{some_reply as law}
use Rattle.session_spec.proofs.some_reply.Goals as goal

pub returns : goal.returns
returns c = law
