use Rattle.chain_spec.proofs.ChainLaws.{shortest_of_modules as law}
use Rattle.chain_spec.proofs.shortest_of_modules.Goals as goal

pub returns : goal.returns
returns g c = law
