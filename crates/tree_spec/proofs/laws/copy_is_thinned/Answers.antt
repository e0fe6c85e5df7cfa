use Rattle.tree_spec.proofs.Copies.{copy_is_thinned}
use Rattle.tree_spec.proofs.laws.copy_is_thinned.Goals as goal

pub returns : goal.returns
returns c = copy_is_thinned
