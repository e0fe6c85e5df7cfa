use Rattle.edit_session.specs.SessionParts.{parts}
use Rattle.std.proofs.Common.{refl}
use Rattle.edit_session.proofs.FrugalEdits.{frugal_nothing}
use Rattle.edit_session.proofs.SessionSteps.{lacks_next}
use Rattle.edit_session.proofs.steps.next.Goals as goal

pub returns-in-Err-clause-makes : goal.returns-in-Err-clause-makes
returns-in-Err-clause-makes g c generated =
    rw c.draft.ensures.known
    (lacks_next (g.F.Folder.state c.args.folder.now) (parts c.args.looks.now.known c.args.config.now generated c.args.answers.now c.args.shown.now) c.args.edit.now)

pub returns-in-Ok-clause-makes : goal.returns-in-Ok-clause-makes
returns-in-Ok-clause-makes g c generated = rw c.draft.ensures.known at (c.make.ensures.makes generated)

pub returns-in-Err-clause-fresh : goal.returns-in-Err-clause-fresh
returns-in-Err-clause-fresh g c generated tree state e is = frugal_nothing state c.args.edit.now _ _ refl

pub returns-in-Ok-clause-fresh : goal.returns-in-Ok-clause-fresh
returns-in-Ok-clause-fresh g c generated = rw c.draft.ensures.known at (c.make.ensures.fresh generated)
