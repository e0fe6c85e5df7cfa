use Rattle.vendor_spec.proofs.Plans.{plan_fits}
use Rattle.vendor_spec.proofs.plan_fits.Goals as goal

pub returns : goal.returns
returns c = plan_fits
