use Rattle.trace_spec.proofs.Generations as laws
use Rattle.trace_spec.proofs.looks_are_of_questions.Goals as goal

pub returns : goal.returns
returns c = laws.looks_are_of_questions
