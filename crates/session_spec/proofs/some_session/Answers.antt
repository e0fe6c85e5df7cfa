use Rattle.session_spec.proofs.WholeSessions.{some_session as law}
use Rattle.session_spec.proofs.some_session.Goals as goal

pub returns : goal.returns
returns c = law
