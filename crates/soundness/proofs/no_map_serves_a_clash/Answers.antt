use Rattle.soundness.proofs.Clashing.{no_map_serves_a_clash}
use Rattle.soundness.proofs.no_map_serves_a_clash.Goals as goal

pub returns : goal.returns
returns c = no_map_serves_a_clash
