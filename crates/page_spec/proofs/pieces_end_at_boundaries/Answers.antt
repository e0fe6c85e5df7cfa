use Rattle.page_spec.proofs.Characters.{pieces_end_at_boundaries}
use Rattle.page_spec.proofs.pieces_end_at_boundaries.Goals as goal

pub returns : goal.returns
returns c = pieces_end_at_boundaries
