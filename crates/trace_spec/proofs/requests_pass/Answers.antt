use Rattle.trace_spec.proofs.Traces as laws
use Rattle.trace_spec.proofs.requests_pass.Goals as goal

pub returns : goal.returns
returns c = laws.requests_pass
