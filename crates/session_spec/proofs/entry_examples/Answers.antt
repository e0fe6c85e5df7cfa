use Rattle.session_spec.proofs.SessionExamples.{entry_examples as law}
use Rattle.session_spec.proofs.entry_examples.Goals as goal

pub returns : goal.returns
returns c = law
