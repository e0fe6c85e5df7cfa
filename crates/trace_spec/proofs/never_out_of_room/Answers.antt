use Rattle.trace_spec.proofs.Traces as laws
use Rattle.trace_spec.proofs.never_out_of_room.Goals as goal

pub returns : goal.returns
returns c = laws.never_out_of_room
