use Rattle.trace_spec.proofs.Traces as laws
use Rattle.trace_spec.proofs.is_what_is_reached.Goals as goal

pub returns : goal.returns
returns c = laws.is_what_is_reached
