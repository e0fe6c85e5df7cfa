use Rattle.session_input.specs.Readers.{waiting, Gains}
use Rattle.session_input.proofs.reader.SessionInput.next.Given as goal

-- no line was whole so far
abbrev pub invariant-loop-fault : goal.invariant-loop-fault
invariant-loop-fault g l = Gains (waiting l.fn.self) (waiting l.self) (g.I.Source.state l.fn.input) (g.I.Source.state l.input)

abbrev pub decreases-loop-fault : goal.decreases-loop-fault
decreases-loop-fault g l = l.self.room
