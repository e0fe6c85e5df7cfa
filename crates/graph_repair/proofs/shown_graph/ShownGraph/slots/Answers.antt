use Rattle.std.proofs.Common.{subst}
use Rattle.std.specs.Prelude.{All}
use Rattle.trace_graph.specs.Links.{Links, IsLive}
use Rattle.graph_repair.proofs.shown_graph.ShownGraph.slots.Goals as goal

pub returns-clause-live : goal.returns-clause-live
returns-clause-live c = subst (λ (l : Links). All (IsLive l.graph) l.slots) c.self.view_is c.self.invariant.slots
