use Rattle.std.proofs.Common.{Some, Ok, Err, subst}
use Rattle.session_input.specs.Readers.{waiting, ReadsNext}
use Rattle.session_talk.proofs.AskLemmas.{turn_same}
use Rattle.session_talk.proofs.ReplyLemmas.{seen_at, said_line}
use Rattle.session_talk.proofs.ReadLemmas.{turn_ordered, turn_malformed, turn_ended, turn_long, turn_fault, turn_memory, turn_less, less_if}
use Rattle.session_talk.proofs.talk.turn.Goals as goal

pub returns-in-Ok-Ordered-clause-less : goal.returns-in-Ok-Ordered-clause-less
returns-in-Ok-Ordered-clause-less g c =
    let old = waiting c.args.reader.now in
    let new = waiting c.next.new.self in
    let source = g.I.Source.state c.args.input.now in
    let later = g.I.Source.state c.next.new.input in
    less_if c.obey.result (turn_less old new source later c.in-Ok-Ordered.order
    (subst (λ read. ReadsNext old new source later (Ok read)) c.in-Ok-Ordered.field-0-is c.in-Ok-Ordered.ensures))

pub returns-in-Ok-Ordered-clause-turns : goal.returns-in-Ok-Ordered-clause-turns
returns-in-Ok-Ordered-clause-turns g c first before is goes =
    let old = waiting c.args.reader.now in
    let new = waiting c.next.new.self in
    let source = g.I.Source.state c.args.input.now in
    let later = g.I.Source.state c.next.new.input in
    let out = g.O.Sink.state c.args.out.now in
    let next = subst (λ read. ReadsNext old new source later (Ok read)) c.in-Ok-Ordered.field-0-is c.in-Ok-Ordered.ensures in
    c.obey.ensures.turns first new later before is
    (turn_ordered first before old new c.args.held.now source later out c.number-number.result c.in-Ok-Ordered.order c.number-number.ensures.number goes next)

pub returns-in-Ok-Malformed-clause-turns : goal.returns-in-Ok-Malformed-clause-turns
returns-in-Ok-Malformed-clause-turns g c first before is goes =
    let old = waiting c.args.reader.now in
    let new = waiting c.next.new.self in
    let source = g.I.Source.state c.args.input.now in
    let later = g.I.Source.state c.next.new.input in
    let out = g.O.Sink.state c.args.out.now in
    let next = subst (λ read. ReadsNext old new source later (Ok read)) c.in-Ok-Malformed.field-0-is c.in-Ok-Malformed.ensures in
    let gone = g.O.Sink.state c.refuse.new.out in
    seen_at before is
    (turn_malformed first before old new c.args.held.now source later out c.number-number.result gone c.refuse.result c.number-number.ensures.number goes next c.refuse.ensures.tells)

pub returns-in-Ok-Malformed-clause-asks : goal.returns-in-Ok-Malformed-clause-asks
returns-in-Ok-Malformed-clause-asks g c =
    turn_same (Some c.refuse.result) (g.E.Editor.looks c.args.editor.now)

pub returns-in-Ok-Ended-clause-turns : goal.returns-in-Ok-Ended-clause-turns
returns-in-Ok-Ended-clause-turns g c first before is goes =
    let old = waiting c.args.reader.now in
    let new = waiting c.next.new.self in
    let source = g.I.Source.state c.args.input.now in
    let later = g.I.Source.state c.next.new.input in
    let out = g.O.Sink.state c.args.out.now in
    let next = subst (λ read. ReadsNext old new source later (Ok read)) c.in-Ok-Ended.field-0-is c.in-Ok-Ended.ensures in
    let gone = g.O.Sink.state c.refuse-in-Ok-Ended.new.out in
    seen_at before is
    (turn_ended first before old new c.args.held.now source later out c.number-number.result gone c.refuse-in-Ok-Ended.result c.number-number.ensures.number goes next c.refuse-in-Ok-Ended.ensures.tells)

pub returns-in-Ok-Ended-clause-asks : goal.returns-in-Ok-Ended-clause-asks
returns-in-Ok-Ended-clause-asks g c =
    turn_same (Some c.refuse-in-Ok-Ended.result) (g.E.Editor.looks c.args.editor.now)

pub returns-in-Ok-TooLong-clause-turns : goal.returns-in-Ok-TooLong-clause-turns
returns-in-Ok-TooLong-clause-turns g c first before is goes =
    let old = waiting c.args.reader.now in
    let new = waiting c.next.new.self in
    let source = g.I.Source.state c.args.input.now in
    let later = g.I.Source.state c.next.new.input in
    let out = g.O.Sink.state c.args.out.now in
    let next = subst (λ read. ReadsNext old new source later (Ok read)) c.in-Ok-TooLong.field-0-is c.in-Ok-TooLong.ensures in
    let gone = g.O.Sink.state c.too_long.new.out in
    seen_at before is
    (turn_long first before old new c.args.held.now source later out gone c.too_long.result goes next c.too_long.ensures.tells)

pub returns-in-Ok-TooLong-clause-asks : goal.returns-in-Ok-TooLong-clause-asks
returns-in-Ok-TooLong-clause-asks g c =
    turn_same (Some c.too_long.result) (g.E.Editor.looks c.args.editor.now)

pub returns-in-Err-ReadFault-clause-turns : goal.returns-in-Err-ReadFault-clause-turns
returns-in-Err-ReadFault-clause-turns g c first before is goes =
    let old = waiting c.args.reader.now in
    let new = waiting c.next.new.self in
    let source = g.I.Source.state c.args.input.now in
    let later = g.I.Source.state c.next.new.input in
    let out = g.O.Sink.state c.args.out.now in
    let next = subst (λ read. ReadsNext old new source later (Err read)) c.in-Err-ReadFault.field-0-is c.in-Err-ReadFault.ensures in
    let gone = g.O.Sink.state c.tell.new.out in
    seen_at before is
    (turn_fault first before old new c.args.held.now source later out gone c.tell.result goes next (said_line c.read_fault_line.ensures c.tell.ensures.ends))

pub returns-in-Err-ReadFault-clause-asks : goal.returns-in-Err-ReadFault-clause-asks
returns-in-Err-ReadFault-clause-asks g c =
    turn_same (Some c.tell.result) (g.E.Editor.looks c.args.editor.now)

pub returns-in-Err-Memory-clause-turns : goal.returns-in-Err-Memory-clause-turns
returns-in-Err-Memory-clause-turns g c first before is goes =
    let old = waiting c.args.reader.now in
    let new = waiting c.next.new.self in
    let source = g.I.Source.state c.args.input.now in
    let later = g.I.Source.state c.next.new.input in
    let out = g.O.Sink.state c.args.out.now in
    let next = subst (λ read. ReadsNext old new source later (Err read)) c.in-Err-Memory.field-0-is c.in-Err-Memory.ensures in
    let gone = g.O.Sink.state c.tell-in-Err-Memory.new.out in
    seen_at before is
    (turn_memory first before old new c.args.held.now source later out gone c.tell-in-Err-Memory.result goes next (said_line c.memory_line.ensures c.tell-in-Err-Memory.ensures.ends))

pub returns-in-Err-Memory-clause-asks : goal.returns-in-Err-Memory-clause-asks
returns-in-Err-Memory-clause-asks g c =
    turn_same (Some c.tell-in-Err-Memory.result) (g.E.Editor.looks c.args.editor.now)
