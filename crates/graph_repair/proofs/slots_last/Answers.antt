use Rattle.graph_repair.proofs.Neighbours.{slots_last}
use Rattle.graph_repair.proofs.slots_last.Goals as goal

pub returns : goal.returns
returns c = slots_last
