use Rattle.module_graph.proofs.Dealing.{deals_in_order}
use Rattle.module_graph.proofs.laws.targets_are_dealt.Goals as goal

pub returns : goal.returns
returns c = deals_in_order
