use Rattle.generator_spec.proofs.SomeOutcomes.{some_outcome}
use Rattle.generator_spec.proofs.some_outcome.Goals as goal

pub returns : goal.returns
returns c = some_outcome
