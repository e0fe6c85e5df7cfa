use Rattle.edit_session.proofs.TreesMade.{room_fails, room_taken, room_there, room_at_root, room_lacks, room_above}
use Rattle.edit_session.proofs.files.can_put.Goals as goal

pub returns-in-Err : goal.returns-in-Err
returns-in-Err g c =
    room_fails (g.F.Folder.state c.args.folder.now) (g.F.Folder.state c.standing_of.new.folder) c.args.looks.now.known c.standing_of.new.self.known
    c.args.looks.now.over c.standing_of.new.self.over c.args.path.now c.in-Err.fault (rw c.in-Err.is at c.standing_of.ensures)

pub returns-in-Ok-Folder : goal.returns-in-Ok-Folder
returns-in-Ok-Folder g c =
    room_taken (g.F.Folder.state c.args.folder.now) (g.F.Folder.state c.standing_of.new.folder) c.args.looks.now.known c.standing_of.new.self.known
    c.args.looks.now.over c.standing_of.new.self.over c.args.path.now (rw (c.in-Ok-Folder.is, c.in-Ok-Folder.field-0-is) at c.standing_of.ensures)

pub returns-in-Ok-File : goal.returns-in-Ok-File
returns-in-Ok-File g c =
    room_there (g.F.Folder.state c.args.folder.now) (g.F.Folder.state c.standing_of.new.folder) c.args.looks.now.known c.standing_of.new.self.known
    c.args.looks.now.over c.standing_of.new.self.over c.args.path.now (rw (c.in-Ok-File.is, c.in-Ok-File.field-0-is) at c.standing_of.ensures)

pub returns-in-Err-parent : goal.returns-in-Err-parent
returns-in-Err-parent g c =
    room_lacks (g.F.Folder.state c.args.folder.now) (g.F.Folder.state c.standing_of.new.folder) c.args.looks.now.known c.standing_of.new.self.known
    c.args.looks.now.over c.standing_of.new.self.over c.args.path.now (rw (c.in-Ok-Nothing.is, c.in-Ok-Nothing.field-0-is) at c.standing_of.ensures)

pub returns-in-Ok-None : goal.returns-in-Ok-None
returns-in-Ok-None g c =
    room_at_root (g.F.Folder.state c.args.folder.now) (g.F.Folder.state c.standing_of.new.folder) c.args.looks.now.known c.standing_of.new.self.known
    c.args.looks.now.over c.standing_of.new.self.over c.args.path.now (rw (c.in-Ok-None.is, c.in-Ok-None.field-0-is) at c.parent.ensures.parent)
    (rw (c.in-Ok-Nothing.is, c.in-Ok-Nothing.field-0-is) at c.standing_of.ensures)

pub returns-in-Ok-Some : goal.returns-in-Ok-Some
returns-in-Ok-Some g c =
    room_above (g.F.Folder.state c.args.folder.now) (g.F.Folder.state c.make_folders.new.folder) c.args.looks.now.known c.make_folders.new.looks.known
    c.args.looks.now.over c.make_folders.new.looks.over c.args.path.now (g.F.Folder.state c.standing_of.new.folder) c.standing_of.new.self.known c.standing_of.new.self.over
    c.in-Ok-Some.parent c.make_folders.result (rw (c.in-Ok-Nothing.is, c.in-Ok-Nothing.field-0-is) at c.standing_of.ensures)
    (rw (c.in-Ok-Some.is, c.in-Ok-Some.field-0-is) at c.parent.ensures.parent) c.make_folders.ensures
