use Rattle.std.proofs.Common.{◌≤◌, ◌+◌, length, None}
use Rattle.session_input.specs.Readers.{waiting}
use Rattle.session_talk.specs.Editors.{EditorState, Seen}
use Rattle.session_talk.specs.EditorLooks.{AsksKeeping}
use Rattle.session_talk.specs.Talking.{now_at, GoesOn}
use Rattle.session_talk.proofs.talk.converse.Given as goal

-- so far nothing failed, and no line ended the session
abbrev pub invariant-loop-status : goal.invariant-loop-status
invariant-loop-status g l =
    ((before : EditorState) → g.E.Editor.views l.fn.editor before
    → Seen (g.E.Editor.views l.editor) (λ now. GoesOn (now_at before (waiting l.fn.reader) None (g.I.Source.state l.fn.input) (g.O.Sink.state l.fn.out))
    (now_at now (waiting l.reader) l.held (g.I.Source.state l.input) (g.O.Sink.state l.out))))
    × AsksKeeping (g.E.Editor.looks l.fn.editor) (g.E.Editor.looks l.editor)
    × ((g.O.Sink.state l.fn.out).faults ≤ (g.O.Sink.state l.out).faults)

abbrev pub decreases-loop-status : goal.decreases-loop-status
decreases-loop-status g l = length (waiting l.reader).unread + (waiting l.reader).room
