use Rattle.vendor_spec.proofs.Writes.{copied_leaves_rest}
use Rattle.vendor_spec.proofs.copied_leaves_rest.Goals as goal

pub returns : goal.returns
returns c = copied_leaves_rest
