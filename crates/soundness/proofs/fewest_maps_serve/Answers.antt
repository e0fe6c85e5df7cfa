use Rattle.soundness.proofs.Sound.{fewest_maps_serve}
use Rattle.soundness.proofs.fewest_maps_serve.Goals as goal

pub returns : goal.returns
returns c = fewest_maps_serve
