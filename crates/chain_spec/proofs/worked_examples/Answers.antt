use Rattle.chain_spec.proofs.Examples.{worked_examples as law}
use Rattle.chain_spec.proofs.worked_examples.Goals as goal

pub returns : goal.returns
returns c = law
