use Rattle.chain_spec.proofs.ChainLaws.{one_shortest as law}
use Rattle.chain_spec.proofs.one_shortest.Goals as goal

pub returns : goal.returns
returns g c = law
