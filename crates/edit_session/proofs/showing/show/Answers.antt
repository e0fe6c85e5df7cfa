use Rattle.edit_session.proofs.ShownTraces.{places_then}
use Rattle.edit_session.proofs.showing.show.Goals as goal

pub returns-clause-places : goal.returns-clause-places
returns-clause-places c =
    places_then c.args.graph.now c.commit.new.self c.args.plan c.requires
    (record { linked = c.commit.ensures.linked; modules = c.view-view.ensures.modules; repairs = c.commit.ensures.repairs })
