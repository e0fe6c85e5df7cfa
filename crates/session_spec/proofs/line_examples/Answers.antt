use Rattle.session_spec.proofs.SessionExamples.{line_examples as law}
use Rattle.session_spec.proofs.line_examples.Goals as goal

pub returns : goal.returns
returns c = law
