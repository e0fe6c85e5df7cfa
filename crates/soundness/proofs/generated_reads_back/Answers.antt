use Rattle.soundness.proofs.Sound.{generated_reads_back}
use Rattle.soundness.proofs.generated_reads_back.Goals as goal

pub returns : goal.returns
returns c = generated_reads_back
