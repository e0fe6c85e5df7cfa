use Rattle.session_spec.proofs.Replying.{always_current as law}
use Rattle.session_spec.proofs.always_current.Goals as goal

pub returns : goal.returns
returns c = law
