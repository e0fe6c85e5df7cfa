use Rattle.trace_spec.proofs.Traces as laws
use Rattle.trace_spec.proofs.has_levels.Goals as goal

pub returns : goal.returns
returns c = laws.has_levels
