use Rattle.tree_spec.proofs.Placings.{in_root}
use Rattle.tree_spec.proofs.laws.placing_in_root.Goals as goal

pub returns : goal.returns
returns c = in_root
