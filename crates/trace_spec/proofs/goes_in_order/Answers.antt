use Rattle.trace_spec.proofs.Traces as laws
use Rattle.trace_spec.proofs.goes_in_order.Goals as goal

pub returns : goal.returns
returns c = laws.goes_in_order
