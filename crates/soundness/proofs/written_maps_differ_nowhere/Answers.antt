use Rattle.soundness.proofs.Differing.{written_maps_differ_nowhere}
use Rattle.soundness.proofs.written_maps_differ_nowhere.Goals as goal

pub returns : goal.returns
returns c = written_maps_differ_nowhere
