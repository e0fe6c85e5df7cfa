use Rattle.chain_spec.proofs.ChainLaws.{some_shortest as law}
use Rattle.chain_spec.proofs.some_shortest.Goals as goal

pub returns : goal.returns
returns g c = law
