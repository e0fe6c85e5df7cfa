use Rattle.vendor_spec.proofs.Plans.{some_plan}
use Rattle.vendor_spec.proofs.some_plan.Goals as goal

pub returns : goal.returns
returns c = some_plan
