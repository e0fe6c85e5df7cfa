use Rattle.fewest_spec.proofs.OneLists.{one_targets as law}
use Rattle.fewest_spec.proofs.one_targets.Goals as goal

pub returns : goal.returns
returns c = law
