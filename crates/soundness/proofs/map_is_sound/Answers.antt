use Rattle.soundness.proofs.Sound.{sound}
use Rattle.soundness.proofs.map_is_sound.Goals as goal

pub returns : goal.returns
returns c = sound
