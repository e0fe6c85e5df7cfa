use Rattle.grammar_spec.proofs.WorkedExamples.{declaration_examples}
use Rattle.grammar_spec.proofs.declaration_examples.Goals as goal

pub returns : goal.returns
returns c = declaration_examples
