use Rattle.layout_spec.proofs.CountedNeeds.{counted_keeps}
use Rattle.layout_spec.proofs.counted_keeps.Goals as goal

pub returns : goal.returns
returns c = counted_keeps
