use Rattle.std.proofs.Common.{Ok, Err, subst}
use Rattle.session_input.specs.Readers.{waiting, TurnsTo}
use Rattle.session_input.proofs.ReaderLemmas.{reads_further}
use Rattle.session_input.proofs.reader.SessionInput.next.Goals as goal

pub returns-in-Err : goal.returns-in-Err
returns-in-Err g c =
    reads_further (waiting c.args.self.now) (waiting c.loop-fault.self) (waiting c.turn.new.self) (g.I.Source.state c.args.input.now) (g.I.Source.state c.loop-fault.input)
    (g.I.Source.state c.turn.new.input) (Err c.in-Err.fault) c.loop-fault.invariant c.in-Err.ensures

pub returns-in-Ok-Some : goal.returns-in-Ok-Some
returns-in-Ok-Some g c =
    reads_further (waiting c.args.self.now) (waiting c.loop-fault.self) (waiting c.turn.new.self) (g.I.Source.state c.args.input.now) (g.I.Source.state c.loop-fault.input)
    (g.I.Source.state c.turn.new.input) (Ok c.in-Ok-Some.reading) c.loop-fault.invariant
    (subst (λ found. TurnsTo (waiting c.loop-fault.self) (waiting c.turn.new.self) (g.I.Source.state c.loop-fault.input) (g.I.Source.state c.turn.new.input) (Ok found)) c.in-Ok-Some.field-0-is c.in-Ok-Some.ensures)
