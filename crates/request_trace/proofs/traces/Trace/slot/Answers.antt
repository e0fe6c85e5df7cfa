use Rattle.std.proofs.Common.{length, sym, ap, ◌∙◌, subst}
use Rattle.std.specs.Prelude.{IfSome, slice_get}
use Rattle.std.proofs.lemmas.List.{length-map}
use Rattle.trace_graph.specs.Links.{IsLive}
use Rattle.request_trace.specs.Showing.{Traced}
use Rattle.request_trace.proofs.Showings.{none_past}
use Rattle.request_trace.proofs.traces.Trace.slot.Goals as goal

pub returns-clause-slot : goal.returns-clause-slot
returns-clause-slot c = c.slot.ensures.slot ∙ ap (λ (t : Traced). slice_get t.links.slots c.args.place) c.self.view_is

pub returns-clause-none : goal.returns-clause-none
returns-clause-none c =
    none_past c.self.inside.graph.slots c.args.place _ c.slot.result c.slot.ensures.slot
    (sym (length-map _ _) ∙ ap (λ (t : Traced). length t.gathered.modules) c.self.view_is)

pub returns-clause-live : goal.returns-clause-live
returns-clause-live c = subst (λ (t : Traced). IfSome c.slot.result (IsLive t.links.graph)) c.self.view_is c.slot.ensures.live
