use Rattle.tree_spec.proofs.RootAlone.{root_tree}
use Rattle.tree_spec.proofs.laws.root_alone.Goals as goal

pub returns : goal.returns
returns c = root_tree
