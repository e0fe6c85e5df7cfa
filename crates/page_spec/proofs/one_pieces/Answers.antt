use Rattle.page_spec.proofs.Cover.{one_pieces}
use Rattle.page_spec.proofs.one_pieces.Goals as goal

pub returns : goal.returns
returns c = one_pieces
