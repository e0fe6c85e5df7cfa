use Rattle.edit_session.proofs.DraftsMade.{made_of_link, made_of_unlink, made_of_put, made_of_drop}
use Rattle.edit_session.proofs.changes.make.Goals as goal

pub returns-in-Link : goal.returns-in-Link
returns-in-Link g c =
    rw c.in-Link.is
    (made_of_link (g.F.Folder.state c.args.folder.now) c.args.looks.now.known c.args.looks.now.over c.args.entries.now c.link.new.self
    _ c.link.result c.link.ensures)

pub returns-in-Unlink : goal.returns-in-Unlink
returns-in-Unlink g c =
    rw c.in-Unlink.is
    (made_of_unlink (g.F.Folder.state c.args.folder.now) c.args.looks.now.known c.args.looks.now.over c.args.entries.now c.unlink.new.self
    _ c.unlink.result c.unlink.ensures)

pub returns-in-Put : goal.returns-in-Put
returns-in-Put g c =
    rw c.in-Put.is
    (made_of_put _ _ (g.F.Folder.state c.args.folder.now) (g.F.Folder.state c.put-made.new.folder) c.args.looks.now.known c.put-made.new.looks.known
    c.args.looks.now.over c.put-made.new.looks.over c.args.entries.now c.put-made.result c.allowed.result c.allowed.ensures c.put-made.ensures)

pub returns-in-Drop : goal.returns-in-Drop
returns-in-Drop g c =
    rw c.in-Drop.is
    (made_of_drop _ (g.F.Folder.state c.args.folder.now) (g.F.Folder.state c.drop_file-made.new.folder) c.args.looks.now.known
    c.drop_file-made.new.looks.known c.args.looks.now.over c.drop_file-made.new.looks.over c.args.entries.now c.drop_file-made.result
    c.allowed-in-Drop.result c.allowed-in-Drop.ensures c.drop_file-made.ensures)
