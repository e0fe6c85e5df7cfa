use Rattle.soundness.proofs.Kept.{maps_read_back}
use Rattle.soundness.proofs.maps_read_back.Goals as goal

pub returns : goal.returns
returns c = maps_read_back
