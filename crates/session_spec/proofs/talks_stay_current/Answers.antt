use Rattle.session_spec.proofs.Talking.{talks_stay_current as law}
use Rattle.session_spec.proofs.talks_stay_current.Goals as goal

pub returns : goal.returns
returns c = law
