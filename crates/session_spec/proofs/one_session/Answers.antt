use Rattle.session_spec.proofs.WholeSessions.{one_session as law}
use Rattle.session_spec.proofs.one_session.Goals as goal

pub returns : goal.returns
returns c = law
