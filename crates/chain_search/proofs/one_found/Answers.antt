use Rattle.chain_search.proofs.OneSearch.{one_found as law}
use Rattle.chain_search.proofs.one_found.Goals as goal

pub returns : goal.returns
returns g c = law
