use Rattle.session_spec.proofs.OpenInputs.{waiting_is_open as law}
use Rattle.session_spec.proofs.waiting_is_open.Goals as goal

pub returns : goal.returns
returns c = law
