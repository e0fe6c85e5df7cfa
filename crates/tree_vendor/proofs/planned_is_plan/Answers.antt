use Rattle.tree_vendor.proofs.PlannedFiles.{planned_is_plan}
use Rattle.tree_vendor.proofs.planned_is_plan.Goals as goal

pub returns : goal.returns
returns c = planned_is_plan
