use Rattle.tree_spec.proofs.LimitedLooks.{ends_counted}
use Rattle.tree_spec.proofs.laws.ends_counted.Goals as goal

pub returns : goal.returns
returns g c = ends_counted
