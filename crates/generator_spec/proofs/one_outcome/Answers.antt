use Rattle.generator_spec.proofs.Outcomes.{one_outcome}
use Rattle.generator_spec.proofs.one_outcome.Goals as goal

pub returns : goal.returns
returns c = one_outcome
