use Rattle.tree_vendor.proofs.PlannedFiles.{faults_are_of_tree}
use Rattle.tree_vendor.proofs.faults_are_of_tree.Goals as goal

pub returns : goal.returns
returns c = faults_are_of_tree
