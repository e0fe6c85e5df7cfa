use Rattle.std.proofs.Common.{refl}
use Rattle.edit_session.specs.SessionParts.{parts, result_over}
use Rattle.edit_session.proofs.FrugalEdits.{frugal_nothing}
use Rattle.edit_session.proofs.SessionSteps.{no_change, made_next, frugal_all}
use Rattle.edit_session.proofs.steps.make.Goals as goal

pub returns-in-Err-clause-makes : goal.returns-in-Err-clause-makes
returns-in-Err-clause-makes g c generated =
    rw c.of_change.ensures
    (no_change (g.F.Folder.state c.args.folder.now) (g.F.Folder.state c.make_all.new.folder)
    (parts c.args.looks.now.known c.args.config.now generated c.args.answers.now c.args.shown.now)
    (parts c.make_all.new.looks.known c.args.config.now generated c.args.answers.now c.args.shown.now)
    c.args.edit.now c.args.looks.now.over c.make_all.new.looks.over c.args.entries c.make_all.new.entries c.requires.over
    c.requires.entries (record { config = refl; generated = refl; answers = refl }) refl c.in-Err.stop
    (rw (c.in-Err.is, c.as_slice.ensures) at c.make_all.ensures))

pub returns-in-Ok-clause-makes : goal.returns-in-Ok-clause-makes
returns-in-Ok-clause-makes g c generated =
    made_next (g.F.Folder.state c.args.folder.now) (g.F.Folder.state c.make_all.new.folder)
    (parts c.args.looks.now.known c.args.config.now generated c.args.answers.now c.args.shown.now)
    (parts c.make_all.new.looks.known c.args.config.now generated c.args.answers.now c.args.shown.now)
    c.args.edit.now c.args.looks.now.over c.make_all.new.looks.over c.args.entries c.make_all.new.entries c.requires.over
    c.requires.entries (record { config = refl; generated = refl; answers = refl }) refl
    (rw (c.in-Ok.is, c.as_slice.ensures) at c.make_all.ensures) (g.F.Folder.state c.generate.new.folder)
    (parts c.generate.new.looks.known c.generate.new.config generated c.generate.new.answers c.generate.new.shown)
    (result_over c.generate.new.looks.over c.generate.result) (c.generate.ensures.generates generated)

pub returns-in-Err-clause-fresh : goal.returns-in-Err-clause-fresh
returns-in-Err-clause-fresh g c generated tree state e is = frugal_nothing state c.args.edit.now _ _ refl

pub returns-in-Ok-clause-fresh : goal.returns-in-Ok-clause-fresh
returns-in-Ok-clause-fresh g c generated =
    frugal_all (g.F.Folder.state c.args.folder.now) (g.F.Folder.state c.make_all.new.folder)
    (parts c.args.looks.now.known c.args.config.now generated c.args.answers.now c.args.shown.now)
    (parts c.make_all.new.looks.known c.args.config.now generated c.args.answers.now c.args.shown.now)
    c.args.edit.now c.args.looks.now.over c.make_all.new.looks.over c.args.entries c.make_all.new.entries c.requires.over
    c.requires.entries (record { config = refl; generated = refl; answers = refl }) refl
    (rw (c.in-Ok.is, c.as_slice.ensures) at c.make_all.ensures) (g.F.Folder.state c.generate.new.folder)
    (parts c.generate.new.looks.known c.generate.new.config generated c.generate.new.answers c.generate.new.shown)
    (result_over c.generate.new.looks.over c.generate.result) (c.generate.ensures.generates generated) _ _
    c.generate.ensures.fresh
