use Rattle.generator_spec.proofs.RequestNumbers.{requests_are_numbered}
use Rattle.generator_spec.proofs.requests_are_numbered.Goals as goal

pub returns : goal.returns
returns c = requests_are_numbered
