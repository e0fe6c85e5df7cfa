use Rattle.url_spec.proofs.IndexUrls.{index_urls as the_law}
use Rattle.url_spec.proofs.index_urls.Goals as goal

pub returns : goal.returns
returns c = the_law
