use Rattle.session_spec.proofs.ShapedSessions.{sessions_are_shaped as law}
use Rattle.session_spec.proofs.sessions_are_shaped.Goals as goal

pub returns : goal.returns
returns c = law
