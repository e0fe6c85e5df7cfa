use Rattle.std.proofs.Common.{IfSome, subst}
use Rattle.trace_graph.specs.Links.{Links, IsLive}
use Rattle.trace_graph.proofs.Showing.{live_some}
use Rattle.trace_graph.proofs.trace_graph.TraceGraph.slot.Goals as goal

pub returns-clause-live : goal.returns-clause-live
returns-clause-live c =
    subst (λ (l : Links). IfSome c.slot_in.result (IsLive l.graph)) c.self.view_is
    (live_some c.self.inside.graph c.self.inside.slots.items c.args.place c.slot_in.result c.slot_in.ensures c.self.invariant.slots)
