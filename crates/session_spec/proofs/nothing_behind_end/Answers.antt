use Rattle.session_spec.proofs.Conversing.{nothing_behind_end as law}
use Rattle.session_spec.proofs.nothing_behind_end.Goals as goal

pub returns : goal.returns
returns c = law
