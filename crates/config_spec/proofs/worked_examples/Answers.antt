use Rattle.config_spec.proofs.examples.WorkedExamples.{worked_examples}
use Rattle.config_spec.proofs.worked_examples.Goals as goal

pub returns : goal.returns
returns c = worked_examples
