use Rattle.trace_spec.proofs.Sources as laws
use Rattle.trace_spec.proofs.sources_are_read.Goals as goal

pub returns : goal.returns
returns c = laws.sources_are_read
