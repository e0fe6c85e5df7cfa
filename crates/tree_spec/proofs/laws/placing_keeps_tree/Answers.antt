use Rattle.tree_spec.proofs.Placings.{placed_tree}
use Rattle.tree_spec.proofs.laws.placing_keeps_tree.Goals as goal

pub returns : goal.returns
returns c = placed_tree
