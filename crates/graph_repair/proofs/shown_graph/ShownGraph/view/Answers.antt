use Rattle.std.proofs.Common.{subst}
use Rattle.module_graph.specs.Graphs.{AreModules}
use Rattle.trace_graph.specs.Links.{Links}
use Rattle.graph_repair.proofs.shown_graph.ShownGraph.view.Goals as goal

pub returns-clause-modules : goal.returns-clause-modules
returns-clause-modules c = subst (λ (l : Links). AreModules l.graph) c.self.view_is c.view.ensures.modules
