use Rattle.std.proofs.Common.{subst}
use Rattle.std.specs.Prelude.{All}
use Rattle.trace_graph.specs.Links.{IsLive}
use Rattle.edit_session.specs.Shown.{Shows}
use Rattle.edit_session.proofs.showing.Showing.slots.Goals as goal

pub returns-clause-live : goal.returns-clause-live
returns-clause-live c = subst (λ (s : Shows). All (IsLive s.links.graph) s.links.slots) c.self.view_is c.slots.ensures.live
