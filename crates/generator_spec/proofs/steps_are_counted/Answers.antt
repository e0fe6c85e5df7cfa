use Rattle.generator_spec.proofs.CountedQuestions.{steps_are_counted}
use Rattle.generator_spec.proofs.steps_are_counted.Goals as goal

pub returns : goal.returns
returns c = steps_are_counted
