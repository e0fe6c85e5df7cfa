use Rattle.tree_spec.proofs.LimitedLooks.{same_limited_law}
use Rattle.tree_spec.proofs.laws.same_limited.Goals as goal

pub returns : goal.returns
returns g c = same_limited_law
