use Rattle.std.proofs.Common.{refl}
use Rattle.edit_session.specs.SessionParts.{parts, pending_over}
use Rattle.edit_session.proofs.SessionSteps.{no_next, has_next}
use Rattle.edit_session.proofs.steps.generate.Goals as goal

pub returns-in-Err-clause-generates : goal.returns-in-Err-clause-generates
returns-in-Err-clause-generates g c generated =
    rw c.of_map.ensures
    (no_next (g.F.Folder.state c.args.folder.now) (g.F.Folder.state c.try_map-found.new.folder)
    (parts c.args.looks.now.known c.args.config.now generated c.args.answers.now c.args.shown.now)
    (parts c.try_map-found.new.self.known c.try_map-found.new.config generated c.try_map-found.new.answers c.try_map-found.new.shown)
    c.args.looks.now.over c.try_map-found.new.self.over c.args.entries
    (record { config = c.try_map-found.ensures.config; generated = refl; answers = c.try_map-found.ensures.kept }) c.try_map-found.ensures.shown c.in-Err.stop
    (rw c.in-Err.is at c.try_map-found.ensures.tries))

pub returns-in-Ok-clause-generates : goal.returns-in-Ok-clause-generates
returns-in-Ok-clause-generates g c generated =
    has_next (g.F.Folder.state c.args.folder.now) (g.F.Folder.state c.try_map-found.new.folder)
    (parts c.args.looks.now.known c.args.config.now generated c.args.answers.now c.args.shown.now)
    (parts c.try_map-found.new.self.known c.try_map-found.new.config generated c.try_map-found.new.answers c.try_map-found.new.shown)
    c.args.looks.now.over c.try_map-found.new.self.over c.args.entries
    (record { config = c.try_map-found.ensures.config; generated = refl; answers = c.try_map-found.ensures.kept }) c.try_map-found.ensures.shown
    (pending_over c.try_map-found.new.self.over (record { entries = c.try_map-found.new.entries; generated = c.in-Ok.generated })) refl
    c.try_map-found.ensures.entries
    (rw c.in-Ok.is at c.try_map-found.ensures.keeps) (rw c.in-Ok.is at c.try_map-found.ensures.plans)
    (rw c.in-Ok.is at c.try_map-found.ensures.tries)
