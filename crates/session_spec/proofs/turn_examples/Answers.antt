use Rattle.session_spec.proofs.SessionExamples.{turn_examples as law}
use Rattle.session_spec.proofs.turn_examples.Goals as goal

pub returns : goal.returns
returns c = law
