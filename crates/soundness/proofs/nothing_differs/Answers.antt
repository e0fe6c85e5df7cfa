use Rattle.soundness.proofs.Differing.{nothing_differs}
use Rattle.soundness.proofs.nothing_differs.Goals as goal

pub returns : goal.returns
returns c = nothing_differs
