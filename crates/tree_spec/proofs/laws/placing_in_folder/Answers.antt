use Rattle.tree_spec.proofs.Placings.{below_folder}
use Rattle.tree_spec.proofs.laws.placing_in_folder.Goals as goal

pub returns : goal.returns
returns c = below_folder
