use Rattle.page_spec.proofs.Injections.{injected_pieces}
use Rattle.page_spec.proofs.injected_pieces.Goals as goal

pub returns : goal.returns
returns c = injected_pieces
