use Rattle.session_spec.proofs.Standings.{sessions_end as law}
use Rattle.session_spec.proofs.sessions_end.Goals as goal

pub returns : goal.returns
returns c = law
