use Rattle.session_spec.proofs.TakenFronts.{no_take_behind_end as law}
use Rattle.session_spec.proofs.no_take_behind_end.Goals as goal

pub returns : goal.returns
returns c = law
