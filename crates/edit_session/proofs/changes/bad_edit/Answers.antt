use Rattle.edit_session.specs.Making.IsAllowed.{is_bad, not_said}
use Rattle.edit_session.proofs.changes.bad_edit.Goals as goal

pub returns-in-Ok : goal.returns-in-Ok
returns-in-Ok c = rw c.in-Ok.ensures.same is_bad

pub returns-in-Err : goal.returns-in-Err
returns-in-Err c = not_said
