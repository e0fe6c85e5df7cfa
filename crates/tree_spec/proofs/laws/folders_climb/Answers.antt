use Rattle.tree_spec.proofs.FolderLemmas.{folders_climb}
use Rattle.tree_spec.proofs.laws.folders_climb.Goals as goal

pub returns : goal.returns
returns c = folders_climb
