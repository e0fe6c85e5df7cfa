use Rattle.edit_session.specs.Making.IsAllowed.{is_made}
use Rattle.edit_session.proofs.DraftsMade.{look_stops}
use Rattle.edit_session.proofs.changes.allowed.Goals as goal

pub returns-in-Ok-true : goal.returns-in-Ok-true
returns-in-Ok-true c = rw (c.in-Ok-true.is, c.in-Ok-true.field-0-test) is_made

pub returns-in-Ok-false : goal.returns-in-Ok-false
returns-in-Ok-false c = rw (c.in-Ok-false.is, c.in-Ok-false.field-0-test) c.bad_edit.ensures

pub returns-in-Err : goal.returns-in-Err
returns-in-Err c = rw (c.in-Err.is, c.of_look.ensures) (look_stops c.args.path.now c.in-Err.fault)
