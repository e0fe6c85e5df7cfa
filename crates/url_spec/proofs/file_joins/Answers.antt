use Rattle.url_spec.proofs.FileJoins.{file_joins}
use Rattle.url_spec.proofs.file_joins.Goals as goal

pub returns : goal.returns
returns c = file_joins
