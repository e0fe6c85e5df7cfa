use Rattle.vendor_spec.proofs.Writes.{copied_is_copy}
use Rattle.vendor_spec.proofs.copied_is_copy.Goals as goal

pub returns : goal.returns
returns c = copied_is_copy
