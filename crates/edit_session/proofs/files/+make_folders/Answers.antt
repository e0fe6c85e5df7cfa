use Rattle.edit_session.proofs.TreesMade.{folders_fail, folders_stand, folders_barred, folders_root, folders_lack}
use Rattle.edit_session.proofs.TreesMade.{above_fails, above_barred, above_made, above_lacks}
use Rattle.edit_session.proofs.files.+make_folders.Goals as goal

pub returns-in-Err : goal.returns-in-Err
returns-in-Err g t c =
    folders_fail (g.F.Folder.state c.args.folder.now) (g.F.Folder.state c.standing_of.new.folder) c.args.looks.now.known c.standing_of.new.self.known
    c.args.looks.now.over c.standing_of.new.self.over c.args.at.now c.in-Err.fault (rw c.in-Err.is at c.standing_of.ensures)

pub returns-in-Ok-Folder : goal.returns-in-Ok-Folder
returns-in-Ok-Folder g t c =
    folders_stand (g.F.Folder.state c.args.folder.now) (g.F.Folder.state c.standing_of.new.folder) c.args.looks.now.known c.standing_of.new.self.known
    c.args.looks.now.over c.standing_of.new.self.over c.args.at.now (rw (c.in-Ok-Folder.is, c.in-Ok-Folder.field-0-is) at c.standing_of.ensures)

pub returns-in-Ok-File : goal.returns-in-Ok-File
returns-in-Ok-File g t c =
    folders_barred (g.F.Folder.state c.args.folder.now) (g.F.Folder.state c.standing_of.new.folder) c.args.looks.now.known c.standing_of.new.self.known
    c.args.looks.now.over c.standing_of.new.self.over c.args.at.now (rw (c.in-Ok-File.is, c.in-Ok-File.field-0-is) at c.standing_of.ensures)

pub returns-in-Err-parent : goal.returns-in-Err-parent
returns-in-Err-parent g t c =
    folders_lack (g.F.Folder.state c.args.folder.now) (g.F.Folder.state c.standing_of.new.folder) c.args.looks.now.known c.standing_of.new.self.known
    c.args.looks.now.over c.standing_of.new.self.over c.args.at.now (rw (c.in-Ok-Nothing.is, c.in-Ok-Nothing.field-0-is) at c.standing_of.ensures)

pub returns-in-Ok-None : goal.returns-in-Ok-None
returns-in-Ok-None g t c =
    folders_root (g.F.Folder.state c.args.folder.now) (g.F.Folder.state c.standing_of.new.folder) c.args.looks.now.known c.standing_of.new.self.known
    c.args.looks.now.over c.standing_of.new.self.over c.args.at.now (rw (c.in-Ok-None.is, c.in-Ok-None.field-0-is) at c.parent.ensures.parent)
    (rw (c.in-Ok-Nothing.is, c.in-Ok-Nothing.field-0-is) at c.standing_of.ensures)

pub returns-in-Err-make_folders : goal.returns-in-Err-make_folders
returns-in-Err-make_folders g t c =
    above_fails (g.F.Folder.state c.args.folder.now) (g.F.Folder.state c.standing_of.new.folder) (g.F.Folder.state c.make_folders.new.folder)
    c.args.looks.now.known c.standing_of.new.self.known c.make_folders.new.looks.known c.args.looks.now.over c.standing_of.new.self.over c.make_folders.new.looks.over c.make_folders.new.looks.over
    c.args.at.now c.in-Ok-Some.parent (rw (c.in-Ok-Nothing.is, c.in-Ok-Nothing.field-0-is) at c.standing_of.ensures)
    (rw (c.in-Ok-Some.is, c.in-Ok-Some.field-0-is) at c.parent.ensures.parent) c.in-Err-make_folders.fault (rw c.in-Err-make_folders.is at c.make_folders.ensures)

pub returns-in-Ok-false : goal.returns-in-Ok-false
returns-in-Ok-false g t c =
    above_barred (g.F.Folder.state c.args.folder.now) (g.F.Folder.state c.standing_of.new.folder) (g.F.Folder.state c.make_folders.new.folder)
    c.args.looks.now.known c.standing_of.new.self.known c.make_folders.new.looks.known c.args.looks.now.over c.standing_of.new.self.over c.make_folders.new.looks.over c.make_folders.new.looks.over
    c.args.at.now c.in-Ok-Some.parent (rw (c.in-Ok-Nothing.is, c.in-Ok-Nothing.field-0-is) at c.standing_of.ensures)
    (rw (c.in-Ok-Some.is, c.in-Ok-Some.field-0-is) at c.parent.ensures.parent) (rw (c.in-Ok-false.is, c.in-Ok-false.field-0-test) at c.make_folders.ensures)

pub returns-in-Ok : goal.returns-in-Ok
returns-in-Ok g t c =
    rw c.set.ensures.known
    (above_made (g.F.Folder.state c.args.folder.now) (g.F.Folder.state c.standing_of.new.folder) (g.F.Folder.state c.make_folders.new.folder)
    c.args.looks.now.known c.standing_of.new.self.known c.make_folders.new.looks.known c.args.looks.now.over c.standing_of.new.self.over c.make_folders.new.looks.over c.set.new.self.over
    c.args.at.now c.in-Ok-Some.parent (rw (c.in-Ok-Nothing.is, c.in-Ok-Nothing.field-0-is) at c.standing_of.ensures)
    (rw (c.in-Ok-Some.is, c.in-Ok-Some.field-0-is) at c.parent.ensures.parent) (rw (c.in-Ok-true.is, c.in-Ok-true.field-0-test) at c.make_folders.ensures)
    (rw c.in-Ok.is at c.set.ensures.set))

pub returns : goal.returns
returns g t c =
    rw c.set.ensures.known
    (above_lacks (g.F.Folder.state c.args.folder.now) (g.F.Folder.state c.standing_of.new.folder) (g.F.Folder.state c.make_folders.new.folder)
    c.args.looks.now.known c.standing_of.new.self.known c.make_folders.new.looks.known c.args.looks.now.over c.standing_of.new.self.over c.make_folders.new.looks.over c.set.new.self.over
    c.args.at.now c.in-Ok-Some.parent (rw (c.in-Ok-Nothing.is, c.in-Ok-Nothing.field-0-is) at c.standing_of.ensures)
    (rw (c.in-Ok-Some.is, c.in-Ok-Some.field-0-is) at c.parent.ensures.parent) (rw (c.in-Ok-true.is, c.in-Ok-true.field-0-test) at c.make_folders.ensures))
