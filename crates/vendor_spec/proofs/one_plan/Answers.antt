use Rattle.vendor_spec.proofs.Plans.{one_plan}
use Rattle.vendor_spec.proofs.one_plan.Goals as goal

pub returns : goal.returns
returns c = one_plan
