use Rattle.std.proofs.Common.{[], ◌∙◌, sym, ap}
use Rattle.std.specs.Prelude.{slice_get, unwrap_or}
use Rattle.slot_arena.specs.Slots.{value_at}
use Rattle.trace_graph.specs.Links.{source_in}
use Rattle.generator_core.proofs.Explainings.{asked_found}
use Rattle.generator_core.proofs.explaining.asked_at.Goals as goal

-- without a module nothing is asked for
pub returns-in-None : goal.returns-in-None
returns-in-None c =
    ap (λ found. unwrap_or (slice_get (source_in found).specifiers c.args.number) [])
    (sym c.in-None.is ∙ (c.module.ensures ∙ ap (λ g. value_at g c.args.slot) c.view-graph.ensures.graph))

pub returns-in-Some : goal.returns-in-Some
returns-in-Some c =
    c.or_empty.ensures
    ∙ asked_found c.args.trace.now.links.graph c.args.slot c.in-Some.module c.args.number c.request.result
    (sym (c.module.ensures ∙ ap (λ g. value_at g c.args.slot) c.view-graph.ensures.graph) ∙ c.in-Some.is) c.request.ensures
