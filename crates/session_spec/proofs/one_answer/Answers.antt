use Rattle.session_spec.proofs.Conversing.{one_answer as law}
use Rattle.session_spec.proofs.one_answer.Goals as goal

pub returns : goal.returns
returns c = law
