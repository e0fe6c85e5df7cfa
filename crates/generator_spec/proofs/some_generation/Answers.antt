use Rattle.generator_spec.proofs.Generations.{some_generation}
use Rattle.generator_spec.proofs.some_generation.Goals as goal

pub returns : goal.returns
returns c = some_generation
