use Rattle.edit_session.proofs.TreesMade.{put_fails, put_barred, put_made, put_lacks}
use Rattle.edit_session.proofs.files.put.Goals as goal

pub returns-in-Err : goal.returns-in-Err
returns-in-Err g c =
    put_fails (g.F.Folder.state c.args.folder.now) (g.F.Folder.state c.can_put.new.folder) c.args.looks.now.known c.can_put.new.looks.known
    c.args.looks.now.over c.can_put.new.looks.over c.can_put.new.looks.over c.args.path.now c.args.bytes.now c.in-Err.fault (rw c.in-Err.is at c.can_put.ensures)

pub returns-in-Ok-false : goal.returns-in-Ok-false
returns-in-Ok-false g c =
    put_barred (g.F.Folder.state c.args.folder.now) (g.F.Folder.state c.can_put.new.folder) c.args.looks.now.known c.can_put.new.looks.known
    c.args.looks.now.over c.can_put.new.looks.over c.can_put.new.looks.over c.args.path.now c.args.bytes.now (rw (c.in-Ok-false.is, c.in-Ok-false.field-0-test) at c.can_put.ensures)

pub returns-in-Ok : goal.returns-in-Ok
returns-in-Ok g c =
    rw c.lay_file.ensures.known
    (put_made (g.F.Folder.state c.args.folder.now) (g.F.Folder.state c.can_put.new.folder) c.args.looks.now.known c.can_put.new.looks.known
    c.args.looks.now.over c.can_put.new.looks.over c.lay_file.new.looks.over c.args.path.now c.args.bytes.now (rw (c.in-Ok-true.is, c.in-Ok-true.field-0-test) at c.can_put.ensures)
    (rw c.in-Ok.is at c.lay_file.ensures.puts))

pub returns-in-Err-lay_file : goal.returns-in-Err-lay_file
returns-in-Err-lay_file g c =
    rw c.lay_file.ensures.known
    (put_lacks (g.F.Folder.state c.args.folder.now) (g.F.Folder.state c.can_put.new.folder) c.args.looks.now.known c.can_put.new.looks.known
    c.args.looks.now.over c.can_put.new.looks.over c.lay_file.new.looks.over c.args.path.now c.args.bytes.now (rw (c.in-Ok-true.is, c.in-Ok-true.field-0-test) at c.can_put.ensures))
