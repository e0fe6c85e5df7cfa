use Rattle.vendor_spec.proofs.Below.{some_below}
use Rattle.vendor_spec.proofs.some_below.Goals as goal

pub returns : goal.returns
returns c = some_below
