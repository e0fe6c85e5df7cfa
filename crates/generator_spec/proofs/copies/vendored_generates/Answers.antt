use Rattle.generator_spec.proofs.CopiedMaps.{vendored_generates}
use Rattle.generator_spec.proofs.copies.vendored_generates.Goals as goal

pub returns : goal.returns
returns c = vendored_generates
