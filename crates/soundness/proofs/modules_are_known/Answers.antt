use Rattle.soundness.proofs.Sound.{modules_are_known}
use Rattle.soundness.proofs.modules_are_known.Goals as goal

pub returns : goal.returns
returns c = modules_are_known
