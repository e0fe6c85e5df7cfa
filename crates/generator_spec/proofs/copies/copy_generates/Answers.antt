use Rattle.generator_spec.proofs.CopiedMaps.{copy_generates}
use Rattle.generator_spec.proofs.copies.copy_generates.Goals as goal

pub returns : goal.returns
returns c = copy_generates
