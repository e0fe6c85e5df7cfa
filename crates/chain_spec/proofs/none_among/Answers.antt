use Rattle.chain_spec.proofs.ChainLaws.{none_among as law}
use Rattle.chain_spec.proofs.none_among.Goals as goal

pub returns : goal.returns
returns g c = law
