use Rattle.std.proofs.Common.{subst}
use Rattle.module_graph.specs.Graphs.{AreModules}
use Rattle.request_trace.specs.Showing.{Shows, Traced}
use Rattle.request_trace.proofs.Showings.{shows_own}
use Rattle.request_trace.proofs.traces.Trace.view.Goals as goal

pub returns-clause-shows : goal.returns-clause-shows
returns-clause-shows c =
    subst Shows c.self.view_is
    (shows_own c.self.inside.graph c.self.inside.needs c.self.inside.spellings.items c.self.inside.trail.paths)

pub returns-clause-modules : goal.returns-clause-modules
returns-clause-modules c = subst (λ (t : Traced). AreModules t.links.graph) c.self.view_is c.view.ensures.modules
