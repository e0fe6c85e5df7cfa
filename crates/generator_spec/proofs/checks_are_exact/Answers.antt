use Rattle.generator_spec.proofs.Strictnesses.{checks_are_exact}
use Rattle.generator_spec.proofs.checks_are_exact.Goals as goal

pub returns : goal.returns
returns c = checks_are_exact
