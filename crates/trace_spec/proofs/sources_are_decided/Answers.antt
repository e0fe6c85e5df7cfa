use Rattle.trace_spec.proofs.DecidedSources as laws
use Rattle.trace_spec.proofs.sources_are_decided.Goals as goal

pub returns : goal.returns
returns c = laws.sources_are_decided
