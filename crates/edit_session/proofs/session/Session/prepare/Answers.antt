use Rattle.std.proofs.Common.{◌∙◌, refl, sym}
use Rattle.edit_session.specs.SessionParts.{parts, pending_over}
use Rattle.edit_session.proofs.SessionCalls.{frugal_empty, frugal_session, has_changes, not_prepared, prepared, prepared_empty}
use Rattle.edit_session.proofs.session.Session.prepare.Goals as goal

pub returns-then-is_empty-clause-prepares : goal.returns-then-is_empty-clause-prepares
returns-then-is_empty-clause-prepares g c =
    prepared_empty (g.F.Folder.state c.args.folder.now) c.args.self.now c.put_same.new.self
    (c.put_same.ensures.known ∙ c.take_looks-looks.ensures.known) (c.put_same.ensures.config ∙ c.take_looks-looks.ensures.config)
    (c.put_same.ensures.generated ∙ c.take_looks-looks.ensures.generated)
    (c.put_same.ensures.answers ∙ c.take_looks-looks.ensures.answers) (c.put_same.ensures.shown ∙ c.take_looks-looks.ensures.shown)
    c.args.edit.now
    (sym c.is_empty.ensures ∙ c.if-is_empty.true) c.put_same.ensures.pending

pub returns-in-Err-clause-prepares : goal.returns-in-Err-clause-prepares
returns-in-Err-clause-prepares g c =
    not_prepared (g.F.Folder.state c.args.folder.now) (g.F.Folder.state c.next.new.folder) c.args.self.now
    (parts c.next.new.looks.known c.next.new.config c.args.self.now.generated c.next.new.answers c.next.new.shown) c.args.edit.now c.put_back.new.self
    c.put_back.ensures.known c.put_back.ensures.config
    (c.put_back.ensures.generated ∙ c.take_looks-looks.ensures.generated) c.put_back.ensures.answers c.put_back.ensures.shown
    (has_changes c.args.edit.now (sym c.is_empty.ensures ∙ c.if-is_empty.false)) c.in-Err.stop c.put_back.ensures.pending
    (rw (c.in-Err.is, c.take_looks-looks.ensures.known, c.take_looks-looks.ensures.config, c.take_looks-looks.ensures.answers, c.take_looks-looks.ensures.shown)
    at (c.next.ensures.makes c.args.self.now.generated))

pub returns-in-Ok-clause-prepares : goal.returns-in-Ok-clause-prepares
returns-in-Ok-clause-prepares g c =
    prepared (g.F.Folder.state c.args.folder.now) (g.F.Folder.state c.next.new.folder) c.args.self.now
    (parts c.next.new.looks.known c.next.new.config c.args.self.now.generated c.next.new.answers c.next.new.shown) c.args.edit.now c.put_pending.new.self
    c.put_pending.ensures.known c.put_pending.ensures.config
    (c.put_pending.ensures.generated ∙ c.take_looks-looks.ensures.generated) c.put_pending.ensures.answers c.put_pending.ensures.shown
    (has_changes c.args.edit.now (sym c.is_empty.ensures ∙ c.if-is_empty.false))
    (pending_over c.next.new.looks.over c.in-Ok.made) c.put_pending.ensures.pending
    (rw (c.in-Ok.is, c.take_looks-looks.ensures.known, c.take_looks-looks.ensures.config, c.take_looks-looks.ensures.answers, c.take_looks-looks.ensures.shown)
    at (c.next.ensures.makes c.args.self.now.generated))

pub returns-then-is_empty-clause-fresh : goal.returns-then-is_empty-clause-fresh
returns-then-is_empty-clause-fresh g c =
    frugal_empty (g.F.Folder.state c.args.folder.now) c.args.self.now c.args.edit.now _ _ refl

pub returns-in-Err-clause-fresh : goal.returns-in-Err-clause-fresh
returns-in-Err-clause-fresh g c =
    frugal_session (g.F.Folder.state c.args.folder.now) c.args.self.now c.args.edit.now _ _
    (rw (c.take_looks-looks.ensures.known, c.take_looks-looks.ensures.config, c.take_looks-looks.ensures.answers, c.take_looks-looks.ensures.shown)
    at (c.next.ensures.fresh c.args.self.now.generated))

pub returns-in-Ok-clause-fresh : goal.returns-in-Ok-clause-fresh
returns-in-Ok-clause-fresh g c =
    frugal_session (g.F.Folder.state c.args.folder.now) c.args.self.now c.args.edit.now _ _
    (rw (c.take_looks-looks.ensures.known, c.take_looks-looks.ensures.config, c.take_looks-looks.ensures.answers, c.take_looks-looks.ensures.shown)
    at (c.next.ensures.fresh c.args.self.now.generated))

pub put_pending-requires : goal.put_pending-requires
put_pending-requires g c = rw c.in-Ok.is at (c.next.ensures.makes c.args.self.now.generated).has_plan
