use Rattle.node_spec.proofs.OneOutcome.{one_outcome}
use Rattle.node_spec.proofs.one_outcome.Goals as goal

pub returns : goal.returns
returns c = one_outcome
