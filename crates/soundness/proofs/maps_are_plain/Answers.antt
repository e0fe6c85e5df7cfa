use Rattle.soundness.proofs.Sound.{maps_are_plain}
use Rattle.soundness.proofs.maps_are_plain.Goals as goal

pub returns : goal.returns
returns c = maps_are_plain
