use Rattle.std.proofs.Common.{subst, sym}
use Rattle.edit_session.specs.Shown.{KeepsShown, Shows}
use Rattle.edit_session.proofs.ShownTraces.{keeps_itself}
use Rattle.edit_session.proofs.mapping.map_with_plan.Goals as goal

pub returns-in-Err-clause-shown : goal.returns-in-Err-clause-shown
returns-in-Err-clause-shown c =
    subst (λ (s : Shows). KeepsShown c.args.shown.now.links s.links) (sym c.map.ensures.same) (keeps_itself c.args.shown.now.links)
