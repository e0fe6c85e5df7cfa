use Rattle.generator_spec.proofs.CheckAnswers.{checks_answer}
use Rattle.generator_spec.proofs.checks_answer.Goals as goal

pub returns : goal.returns
returns c = checks_answer
