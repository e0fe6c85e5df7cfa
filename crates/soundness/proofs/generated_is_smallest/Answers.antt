use Rattle.soundness.proofs.Smallest.{generated_is_smallest}
use Rattle.soundness.proofs.generated_is_smallest.Goals as goal

pub returns : goal.returns
returns c = generated_is_smallest
