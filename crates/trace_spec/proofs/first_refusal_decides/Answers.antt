use Rattle.trace_spec.proofs.Traces as laws
use Rattle.trace_spec.proofs.first_refusal_decides.Goals as goal

pub returns : goal.returns
returns c = laws.first_refusal_decides
