use Rattle.chain_spec.proofs.ChainLaws.{tried_is_shortest as law}
use Rattle.chain_spec.proofs.tried_is_shortest.Goals as goal

pub returns : goal.returns
returns g c = law
