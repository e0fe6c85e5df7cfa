use Rattle.edit_session.specs.Making.{work}
use Rattle.edit_session.proofs.DraftsMade.{begins, goes_on, stops_now, ends_now}
use Rattle.edit_session.proofs.changes.make_all.Goals as goal

pub loop-change-init : goal.loop-change-init
loop-change-init g c =
    begins c.args.edit.now (g.F.Folder.state c.args.folder.now) c.args.looks.now.known c.make_room.new.self.known
    c.args.looks.now.over c.make_room.new.self.over c.args.entries.now c.make_room.ensures.laid c.make_room.ensures.kept
    c.make_room.ensures.over

pub loop-change-preserved : goal.loop-change-preserved
loop-change-preserved g c =
    goes_on c.args.edit.now c.loop-change.rest.now c.in-Some.more.now c.in-Some.change.now
    (work (g.F.Folder.state c.args.folder.now) c.args.looks.now.known c.args.looks.now.over c.args.entries.now)
    (work (g.F.Folder.state c.loop-change.folder) c.loop-change.looks.known c.loop-change.looks.over c.loop-change.entries)
    (work (g.F.Folder.state c.make.new.folder) c.make.new.looks.known c.make.new.looks.over c.make.new.entries)
    c.in-Some.ensures.cases.0 c.loop-change.invariant (rw c.in-Ok.is at c.make.ensures)

pub returns-in-Err : goal.returns-in-Err
returns-in-Err g c =
    stops_now c.args.edit.now c.loop-change.rest.now c.in-Some.more.now c.in-Some.change.now
    (work (g.F.Folder.state c.args.folder.now) c.args.looks.now.known c.args.looks.now.over c.args.entries.now)
    (work (g.F.Folder.state c.loop-change.folder) c.loop-change.looks.known c.loop-change.looks.over c.loop-change.entries)
    (work (g.F.Folder.state c.make.new.folder) c.make.new.looks.known c.make.new.looks.over c.make.new.entries)
    c.in-Some.ensures.cases.0 c.loop-change.invariant c.in-Err.stop (rw c.in-Err.is at c.make.ensures)

pub returns : goal.returns
returns g c =
    ends_now c.args.edit.now c.loop-change.rest.now
    (work (g.F.Folder.state c.args.folder.now) c.args.looks.now.known c.args.looks.now.over c.args.entries.now)
    (work (g.F.Folder.state c.loop-change.folder) c.loop-change.looks.known c.loop-change.looks.over c.loop-change.entries)
    c.in_default.ensures.cases c.loop-change.invariant
