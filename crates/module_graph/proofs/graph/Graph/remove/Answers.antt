use Rattle.std.proofs.Common.{sym, subst}
use Rattle.module_graph.specs.Graphs.{AreModules}
use Rattle.module_graph.proofs.WellMade.{modules-taken}
use Rattle.module_graph.proofs.graph.Graph.remove.Goals as goal

pub invariant_of-self : goal.invariant_of-self
invariant_of-self c = subst AreModules (sym c.remove.ensures.left) (modules-taken c.remove.result c.self.inside.arena c.args.at c.self.invariant)
