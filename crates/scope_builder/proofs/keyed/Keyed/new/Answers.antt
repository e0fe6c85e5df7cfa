use Rattle.scope_builder.proofs.KeyOrder.{none_in_order}
use Rattle.scope_builder.proofs.keyed.Keyed.new.Goals as goal

pub invariant_of-result : goal.invariant_of-result
invariant_of-result g c = rw c.new.ensures.items none_in_order
