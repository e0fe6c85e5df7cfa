use Rattle.std.proofs.Common.{◌≡◌, ◌∙◌, sym, subst}
use Rattle.std.proofs.lemmas.Result.{IfOk-weaker}
use Rattle.std.specs.Prelude.{IfOk, option_and_then, slice_get}
use Rattle.std.proofs.lemmas.Slice.Eq.{bytes_eq-Decides}
use Rattle.trace_graph.specs.Links.{modules_of, module_of}
use Rattle.request_trace.specs.Showing.{Traced}
use Rattle.request_trace.proofs.Lending.{then_some, then_none}
use Rattle.request_trace.proofs.NamedModules.{name_of, kept_url}
use Rattle.request_trace.proofs.traces.Trace.url.Goals as goal

pub returns-then-eq : goal.returns-then-eq
returns-then-eq c =
    let same : c.as_str.result.now ≡ c.as_str-2.result.now = (bytes_eq-Decides c.as_str.result.now c.as_str-2.result.now).0 (sym c.eq.ensures ∙ c.if-eq.true) in
    subst (λ (t : Traced). IfOk c.name_at.result (λ found. found ≡ option_and_then (name_of c.args.base.now) (slice_get t.gathered.modules c.args.place))) c.self.view_is
    (kept_url c.args.base.now c.self.inside.base (modules_of c.self.inside.graph) c.self.inside.names.items c.args.place
    (sym c.as_str.ensures.text ∙ (same ∙ c.as_str-2.ensures.text)) c.self.invariant.named c.name_at.result c.name_at.ensures)

pub returns-in-None : goal.returns-in-None
returns-in-None c = then_none module_of _ c.module.result c.module.ensures.module (name_of c.args.base.now) c.in-None.is

pub returns-in-Some : goal.returns-in-Some
returns-in-Some c =
    IfOk-weaker c.url_of.result _ _
    (λ found is. then_some module_of _ c.module.result c.module.ensures.module (name_of c.args.base.now) c.in-Some.module found c.in-Some.is is)
    c.url_of.ensures
