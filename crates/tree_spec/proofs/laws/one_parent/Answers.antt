use Rattle.tree_spec.proofs.PathParts.{one_parent}
use Rattle.tree_spec.proofs.laws.one_parent.Goals as goal

pub returns : goal.returns
returns c = one_parent
