use Rattle.trace_spec.proofs.Clashes as laws
use Rattle.trace_spec.proofs.clashes_are_of_requests.Goals as goal

pub returns : goal.returns
returns c = laws.clashes_are_of_requests
