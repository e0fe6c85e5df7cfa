use Rattle.session_spec.proofs.FrugalExamples.{frugal_examples as law}
use Rattle.session_spec.proofs.frugal_examples.Goals as goal

pub returns : goal.returns
returns c = law
