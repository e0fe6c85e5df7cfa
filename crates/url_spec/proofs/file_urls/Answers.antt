use Rattle.url_spec.proofs.FileUrls.{file_urls as the_law}
use Rattle.url_spec.proofs.file_urls.Goals as goal

pub returns : goal.returns
returns c = the_law
