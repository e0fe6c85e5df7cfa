use Rattle.std.proofs.Common.{sym, ap, ◌∙◌}
use Rattle.std.specs.Prelude.{slice_get}
use Rattle.slot_arena.specs.Slots.{value_at}
use Rattle.trace_graph.specs.Links.{module_in, source_in}
use Rattle.trace_graph.proofs.Showing.{seen_some, seen_none}
use Rattle.generator_core.proofs.listing.module_at.Goals as goal

pub returns-in-Some-clause-module : goal.returns-in-Some-clause-module
returns-in-Some-clause-module c =
    seen_some module_in c.args.trace.now.links.graph c.args.trace.now.links.slots c.args.place c.in-Some.slot c.module.result
    (sym c.slot.ensures.slot ∙ c.in-Some.is) (c.module.ensures ∙ ap (λ g. value_at g c.in-Some.slot) c.view-graph.ensures.graph) c.view-graph.ensures.linked.slots
    ∙ ap (λ ms. slice_get ms c.args.place) c.view-graph.ensures.shows.modules_are

pub returns-in-Some-clause-source : goal.returns-in-Some-clause-source
returns-in-Some-clause-source c =
    seen_some source_in c.args.trace.now.links.graph c.args.trace.now.links.slots c.args.place c.in-Some.slot c.module.result
    (sym c.slot.ensures.slot ∙ c.in-Some.is) (c.module.ensures ∙ ap (λ g. value_at g c.in-Some.slot) c.view-graph.ensures.graph) c.view-graph.ensures.linked.slots
    ∙ ap (λ ss. slice_get ss c.args.place) c.view-graph.ensures.shows.sources_are

pub returns-in-None-clause-module : goal.returns-in-None-clause-module
returns-in-None-clause-module c =
    seen_none module_in c.args.trace.now.links.graph c.args.trace.now.links.slots c.args.place (sym c.slot.ensures.slot ∙ c.in-None.is)
    ∙ ap (λ ms. slice_get ms c.args.place) c.view-graph.ensures.shows.modules_are

pub returns-in-None-clause-source : goal.returns-in-None-clause-source
returns-in-None-clause-source c =
    seen_none source_in c.args.trace.now.links.graph c.args.trace.now.links.slots c.args.place (sym c.slot.ensures.slot ∙ c.in-None.is)
    ∙ ap (λ ss. slice_get ss c.args.place) c.view-graph.ensures.shows.sources_are
