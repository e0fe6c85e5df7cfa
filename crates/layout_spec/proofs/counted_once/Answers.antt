use Rattle.layout_spec.proofs.CountedNeeds.{counted_once}
use Rattle.layout_spec.proofs.counted_once.Goals as goal

pub returns : goal.returns
returns c = counted_once
