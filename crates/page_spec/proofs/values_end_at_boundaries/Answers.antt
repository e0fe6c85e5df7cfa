use Rattle.page_spec.proofs.ValueCharacters.{values_end_at_boundaries}
use Rattle.page_spec.proofs.values_end_at_boundaries.Goals as goal

pub returns : goal.returns
returns c = values_end_at_boundaries
