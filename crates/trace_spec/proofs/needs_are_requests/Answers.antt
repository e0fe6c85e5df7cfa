use Rattle.trace_spec.proofs.Traces as laws
use Rattle.trace_spec.proofs.needs_are_requests.Goals as goal

pub returns : goal.returns
returns c = laws.needs_are_requests
