use Rattle.chain_search.proofs.Search.{finds_shortest as law}
use Rattle.chain_search.proofs.finds_shortest.Goals as goal

pub returns : goal.returns
returns g c = law
