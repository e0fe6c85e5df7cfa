use Rattle.generator_spec.proofs.StrictExamples.{strict_examples}
use Rattle.generator_spec.proofs.strict_examples.Goals as goal

pub returns : goal.returns
returns c = strict_examples
