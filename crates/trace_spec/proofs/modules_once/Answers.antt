use Rattle.trace_spec.proofs.Traces as laws
use Rattle.trace_spec.proofs.modules_once.Goals as goal

pub returns : goal.returns
returns c = laws.modules_once
