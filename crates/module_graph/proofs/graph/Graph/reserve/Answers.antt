use Rattle.module_graph.proofs.WellMade.{modules-reserved}
use Rattle.module_graph.proofs.graph.Graph.reserve.Goals as goal

pub invariant_of-self : goal.invariant_of-self
invariant_of-self c =
    modules-reserved c.reserve.result c.self.inside.arena c.reserve.new.self c.args.n c.reserve.ensures.ok c.reserve.ensures.err c.self.invariant
