use Rattle.grammar_spec.proofs.WorkedExamples.{binding_examples}
use Rattle.grammar_spec.proofs.binding_examples.Goals as goal

pub returns : goal.returns
returns c = binding_examples
