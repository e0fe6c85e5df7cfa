use Rattle.tree_spec.proofs.FolderLemmas.{folder_is_parent}
use Rattle.tree_spec.proofs.laws.folder_is_parent.Goals as goal

pub returns : goal.returns
returns c = folder_is_parent
