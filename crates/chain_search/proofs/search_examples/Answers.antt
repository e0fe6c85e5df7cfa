use Rattle.chain_search.proofs.SearchExamples.{search_examples as law}
use Rattle.chain_search.proofs.search_examples.Goals as goal

pub returns : goal.returns
returns c = law
