use Rattle.edit_session.proofs.TreesMade.{drop_fails, drop_none, drop_folder, drop_made, drop_lacks}
use Rattle.edit_session.proofs.files.drop_file.Goals as goal

pub returns-in-Err : goal.returns-in-Err
returns-in-Err g c =
    drop_fails (g.F.Folder.state c.args.folder.now) (g.F.Folder.state c.standing_of.new.folder) c.args.looks.now.known c.standing_of.new.self.known
    c.args.looks.now.over c.standing_of.new.self.over c.args.path.now c.in-Err.fault (rw c.in-Err.is at c.standing_of.ensures)

pub returns-in-Ok-Nothing : goal.returns-in-Ok-Nothing
returns-in-Ok-Nothing g c =
    drop_none (g.F.Folder.state c.args.folder.now) (g.F.Folder.state c.standing_of.new.folder) c.args.looks.now.known c.standing_of.new.self.known
    c.args.looks.now.over c.standing_of.new.self.over c.args.path.now (rw (c.in-Ok-Nothing.is, c.in-Ok-Nothing.field-0-is) at c.standing_of.ensures)

pub returns-in-Ok-Folder : goal.returns-in-Ok-Folder
returns-in-Ok-Folder g c =
    drop_folder (g.F.Folder.state c.args.folder.now) (g.F.Folder.state c.standing_of.new.folder) c.args.looks.now.known c.standing_of.new.self.known
    c.args.looks.now.over c.standing_of.new.self.over c.args.path.now (rw (c.in-Ok-Folder.is, c.in-Ok-Folder.field-0-is) at c.standing_of.ensures)

pub returns-in-Ok : goal.returns-in-Ok
returns-in-Ok g c =
    rw c.set.ensures.known
    (drop_made (g.F.Folder.state c.args.folder.now) (g.F.Folder.state c.standing_of.new.folder) c.args.looks.now.known c.standing_of.new.self.known
    c.args.looks.now.over c.standing_of.new.self.over c.args.path.now c.set.new.self.over (rw (c.in-Ok-File.is, c.in-Ok-File.field-0-is) at c.standing_of.ensures)
    (rw c.in-Ok.is at c.set.ensures.set))

pub returns-in-Err-set : goal.returns-in-Err-set
returns-in-Err-set g c =
    rw c.set.ensures.known
    (drop_lacks (g.F.Folder.state c.args.folder.now) (g.F.Folder.state c.standing_of.new.folder) c.args.looks.now.known c.standing_of.new.self.known
    c.args.looks.now.over c.standing_of.new.self.over c.args.path.now c.set.new.self.over (rw (c.in-Ok-File.is, c.in-Ok-File.field-0-is) at c.standing_of.ensures))
