use Rattle.session_spec.proofs.SessionsPromise.{sessions_keep_promises as law}
use Rattle.session_spec.proofs.sessions_keep_promises.Goals as goal

pub returns : goal.returns
returns c = law
