use Rattle.std.proofs.Common.{length, refl, subst}
use Rattle.trace_graph.specs.Links.{Links}
use Rattle.graph_repair.specs.Plans.{IsPlanned}
use Rattle.edit_session.specs.Shown.{Shows}
use Rattle.edit_session.proofs.showing.Showing.plan.Goals as goal

pub returns-clause-planned : goal.returns-clause-planned
returns-clause-planned c = record {
  plan = c.in_ok-plan.plan;
  is_there = refl;
  planned = subst (λ (s : Shows). IsPlanned (length s.links.graph) c.plan.new.self c.args.trace.now.links c.in_ok-plan.plan) c.self.view_is
      (subst (λ (l : Links). IsPlanned (length c.self.inside.graph.graph) c.plan.new.self l c.in_ok-plan.plan) c.graph.ensures
      c.in_ok-plan.ensures.planned);
  shows = c.view-view.ensures.shows;
  linked = c.view-view.ensures.linked;
}
