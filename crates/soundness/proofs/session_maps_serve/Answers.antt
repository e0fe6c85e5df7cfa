use Rattle.soundness.proofs.SessionMaps.{session_maps_serve}
use Rattle.soundness.proofs.session_maps_serve.Goals as goal

pub returns : goal.returns
returns c = session_maps_serve
