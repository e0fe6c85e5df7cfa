use Rattle.std.proofs.Common.{subst}
use Rattle.module_graph.specs.Graphs.{AreModules}
use Rattle.module_graph.proofs.graph.Graph.view.Goals as goal

pub returns-clause-modules : goal.returns-clause-modules
returns-clause-modules c = subst AreModules c.self.view_is c.self.invariant
