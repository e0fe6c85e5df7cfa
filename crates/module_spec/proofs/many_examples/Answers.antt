use Rattle.module_spec.proofs.examples.OutlineExamples.{many_examples}
use Rattle.module_spec.proofs.many_examples.Goals as goal

pub returns : goal.returns
returns c = many_examples
