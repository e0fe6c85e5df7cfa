use Rattle.url_spec.proofs.FileNames.{files_end_in_no_slash as the_law}
use Rattle.url_spec.proofs.files_end_in_no_slash.Goals as goal

pub returns : goal.returns
returns c = the_law
