use Rattle.page_spec.proofs.Cover.{pieces_cover}
use Rattle.page_spec.proofs.pieces_cover.Goals as goal

pub returns : goal.returns
returns c = pieces_cover
