use Rattle.tree_spec.proofs.LeftOutFolders.{spared_same}
use Rattle.tree_spec.proofs.laws.spared_same.Goals as goal

pub returns : goal.returns
returns g c = spared_same
