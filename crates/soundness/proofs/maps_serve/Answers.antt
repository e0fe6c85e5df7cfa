use Rattle.soundness.proofs.Sound.{maps_serve}
use Rattle.soundness.proofs.maps_serve.Goals as goal

pub returns : goal.returns
returns c = maps_serve
