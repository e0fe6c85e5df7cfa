use Rattle.trace_spec.proofs.Traces as laws
use Rattle.trace_spec.proofs.few_requests.Goals as goal

pub returns : goal.returns
returns c = laws.few_requests
