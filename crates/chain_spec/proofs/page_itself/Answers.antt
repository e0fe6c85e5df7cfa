use Rattle.chain_spec.proofs.ChainLaws.{page_itself as law}
use Rattle.chain_spec.proofs.page_itself.Goals as goal

pub returns : goal.returns
returns g c = law
