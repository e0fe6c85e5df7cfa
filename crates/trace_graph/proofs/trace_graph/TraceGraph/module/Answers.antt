use Rattle.std.proofs.Common.{◌≡◌, None, option_map, sym, ap, ◌∙◌, subst}
use Rattle.std.specs.Prelude.{slice_get}
use Rattle.slot_arena.specs.Slots.{value_at}
use Rattle.trace_graph.specs.Links.{Links, module_of, source_of, module_in, source_in, modules_of, sources_of}
use Rattle.trace_graph.proofs.Showing.{seen_some, seen_none}
use Rattle.trace_graph.proofs.trace_graph.TraceGraph.module.Goals as goal

pub returns-in-Some-clause-module : goal.returns-in-Some-clause-module
returns-in-Some-clause-module c =
    subst (λ (l : Links). option_map module_of c.module.result ≡ slice_get (modules_of l) c.args.place) c.self.view_is
    (seen_some module_in c.self.inside.graph c.self.inside.slots.items c.args.place c.in-Some.slot c.module.result
    (sym c.slot_in.ensures ∙ c.in-Some.is) (c.module.ensures ∙ ap (λ g. value_at g c.in-Some.slot) c.view.ensures.graph) c.self.invariant.slots)

pub returns-in-Some-clause-source : goal.returns-in-Some-clause-source
returns-in-Some-clause-source c =
    subst (λ (l : Links). option_map source_of c.module.result ≡ slice_get (sources_of l) c.args.place) c.self.view_is
    (seen_some source_in c.self.inside.graph c.self.inside.slots.items c.args.place c.in-Some.slot c.module.result
    (sym c.slot_in.ensures ∙ c.in-Some.is) (c.module.ensures ∙ ap (λ g. value_at g c.in-Some.slot) c.view.ensures.graph) c.self.invariant.slots)

pub returns-in-None-clause-module : goal.returns-in-None-clause-module
returns-in-None-clause-module c =
    subst (λ (l : Links). None ≡ slice_get (modules_of l) c.args.place) c.self.view_is
    (seen_none module_in c.self.inside.graph c.self.inside.slots.items c.args.place (sym c.slot_in.ensures ∙ c.in-None.is))

pub returns-in-None-clause-source : goal.returns-in-None-clause-source
returns-in-None-clause-source c =
    subst (λ (l : Links). None ≡ slice_get (sources_of l) c.args.place) c.self.view_is
    (seen_none source_in c.self.inside.graph c.self.inside.slots.items c.args.place (sym c.slot_in.ensures ∙ c.in-None.is))
