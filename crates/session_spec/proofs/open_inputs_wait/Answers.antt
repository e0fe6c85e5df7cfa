use Rattle.session_spec.proofs.OpenInputs.{open_inputs_wait as law}
use Rattle.session_spec.proofs.open_inputs_wait.Goals as goal

pub returns : goal.returns
returns c = law
