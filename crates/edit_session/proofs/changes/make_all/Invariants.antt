use Rattle.std.proofs.Common.{length}
use Rattle.edit_session.specs.Making.{work}
use Rattle.edit_session.proofs.DraftsMade.{Completes}
use Rattle.edit_session.proofs.changes.make_all.Given as goal

abbrev pub invariant-loop-change : goal.invariant-loop-change
invariant-loop-change g l =
    Completes l.fn.edit (work (g.F.Folder.state l.fn.folder) l.fn.looks.known l.fn.looks.over l.fn.entries) l.rest
    (work (g.F.Folder.state l.folder) l.looks.known l.looks.over l.entries)

abbrev pub decreases-loop-change : goal.decreases-loop-change
decreases-loop-change g l = length l.rest
