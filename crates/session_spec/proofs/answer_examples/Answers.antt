use Rattle.session_spec.proofs.SessionExamples.{answer_examples as law}
use Rattle.session_spec.proofs.answer_examples.Goals as goal

pub returns : goal.returns
returns c = law
