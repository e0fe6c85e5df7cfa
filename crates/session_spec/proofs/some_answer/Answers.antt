use Rattle.session_spec.proofs.SomeAnswer.{some_answer as law}
use Rattle.session_spec.proofs.some_answer.Goals as goal

pub returns : goal.returns
returns c = law
