use Rattle.grammar_spec.proofs.WorkedExamples.{expression_examples}
use Rattle.grammar_spec.proofs.expression_examples.Goals as goal

pub returns : goal.returns
returns c = expression_examples
