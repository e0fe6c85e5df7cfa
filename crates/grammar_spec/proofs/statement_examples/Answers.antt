use Rattle.grammar_spec.proofs.WorkedExamples.{statement_examples}
use Rattle.grammar_spec.proofs.statement_examples.Goals as goal

pub returns : goal.returns
returns c = statement_examples
