use Rattle.chain_spec.proofs.ChainLaws.{chain_where_reached as law}
use Rattle.chain_spec.proofs.chain_where_reached.Goals as goal

pub returns : goal.returns
returns g c = law
