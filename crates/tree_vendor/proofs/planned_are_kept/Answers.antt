use Rattle.tree_vendor.proofs.PlannedFiles.{planned_are_kept}
use Rattle.tree_vendor.proofs.planned_are_kept.Goals as goal

pub returns : goal.returns
returns c = planned_are_kept
