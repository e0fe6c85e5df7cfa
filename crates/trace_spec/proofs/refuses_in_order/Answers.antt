use Rattle.trace_spec.proofs.RefusalOrder as laws
use Rattle.trace_spec.proofs.refuses_in_order.Goals as goal

pub returns : goal.returns
returns c = laws.refuses_in_order
