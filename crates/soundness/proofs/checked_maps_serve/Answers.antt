use Rattle.soundness.proofs.Checked.{checked_maps_serve}
use Rattle.soundness.proofs.checked_maps_serve.Goals as goal

pub returns : goal.returns
returns c = checked_maps_serve
