use Rattle.generator_spec.proofs.Generations.{one_generation}
use Rattle.generator_spec.proofs.one_generation.Goals as goal

pub returns : goal.returns
returns c = one_generation
