use Rattle.vendor_spec.proofs.Made.{some_copied}
use Rattle.vendor_spec.proofs.some_copied.Goals as goal

pub returns : goal.returns
returns c = some_copied
