use Rattle.node_spec.proofs.OneOutcome.{one_under}
use Rattle.node_spec.proofs.one_under.Goals as goal

pub returns : goal.returns
returns c = one_under
