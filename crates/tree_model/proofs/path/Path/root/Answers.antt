use Rattle.tree_spec.proofs.RootAlone.{root_is_path}
use Rattle.tree_model.proofs.path.Path.root.Goals as goal

pub invariant_of-result : goal.invariant_of-result
invariant_of-result c = root_is_path _ c.in_ok-text.ensures
