use Rattle.session_spec.proofs.SessionExamples.{edit_examples as law}
use Rattle.session_spec.proofs.edit_examples.Goals as goal

pub returns : goal.returns
returns c = law
