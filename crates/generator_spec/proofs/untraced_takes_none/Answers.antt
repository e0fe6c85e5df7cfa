use Rattle.generator_spec.proofs.UntracedRuns.{untraced_takes_none}
use Rattle.generator_spec.proofs.untraced_takes_none.Goals as goal

pub returns : goal.returns
returns c = untraced_takes_none
