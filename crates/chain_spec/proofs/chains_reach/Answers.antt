use Rattle.chain_spec.proofs.ChainLaws.{chains_reach as law}
use Rattle.chain_spec.proofs.chains_reach.Goals as goal

pub returns : goal.returns
returns g c = law
