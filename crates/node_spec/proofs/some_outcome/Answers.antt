use Rattle.node_spec.proofs.SomeOutcome.{some_outcome}
use Rattle.node_spec.proofs.some_outcome.Goals as goal

pub returns : goal.returns
returns c = some_outcome
