use Rattle.url_spec.proofs.UrlsInFolders.{named_in_folder as the_law}
use Rattle.url_spec.proofs.named_in_folder.Goals as goal

pub returns : goal.returns
returns c = the_law
