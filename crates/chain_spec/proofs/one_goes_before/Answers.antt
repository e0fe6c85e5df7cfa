use Rattle.chain_spec.proofs.ChainLaws.{one_goes_before as law}
use Rattle.chain_spec.proofs.one_goes_before.Goals as goal

pub returns : goal.returns
returns c = law
