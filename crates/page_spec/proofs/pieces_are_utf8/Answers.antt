use Rattle.page_spec.proofs.Characters.{pieces_are_utf8}
use Rattle.page_spec.proofs.pieces_are_utf8.Goals as goal

pub returns : goal.returns
returns c = pieces_are_utf8
