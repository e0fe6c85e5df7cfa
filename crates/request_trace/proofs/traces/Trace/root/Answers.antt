use Rattle.std.proofs.Common.{length, ap, ◌∙◌, subst}
use Rattle.std.specs.Prelude.{IfSome, slice_get}
use Rattle.trace_graph.specs.Links.{IsLive}
use Rattle.request_trace.specs.Showing.{Traced}
use Rattle.request_trace.proofs.Showings.{none_past}
use Rattle.request_trace.proofs.traces.Trace.root.Goals as goal

pub returns-clause-slot : goal.returns-clause-slot
returns-clause-slot c = c.root.ensures.slot ∙ ap (λ (t : Traced). slice_get t.links.roots c.args.entry) c.self.view_is

pub returns-clause-none : goal.returns-clause-none
returns-clause-none c =
    none_past c.self.inside.graph.roots c.args.entry _ c.root.result c.root.ensures.slot
    (ap (λ (t : Traced). length t.links.roots) c.self.view_is)

pub returns-clause-live : goal.returns-clause-live
returns-clause-live c = subst (λ (t : Traced). IfSome c.root.result (IsLive t.links.graph)) c.self.view_is c.root.ensures.live
