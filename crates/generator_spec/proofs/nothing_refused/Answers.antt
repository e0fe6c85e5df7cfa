use Rattle.generator_spec.proofs.Generations.{nothing_refused}
use Rattle.generator_spec.proofs.nothing_refused.Goals as goal

pub returns : goal.returns
returns c = nothing_refused
