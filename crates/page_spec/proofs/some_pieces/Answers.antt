use Rattle.page_spec.proofs.Existence.{some_pieces}
use Rattle.page_spec.proofs.some_pieces.Goals as goal

pub returns : goal.returns
returns c = some_pieces
