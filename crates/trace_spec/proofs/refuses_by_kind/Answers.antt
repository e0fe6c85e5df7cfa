use Rattle.trace_spec.proofs.RefusalKinds as laws
use Rattle.trace_spec.proofs.refuses_by_kind.Goals as goal

pub returns : goal.returns
returns c = laws.refuses_by_kind
