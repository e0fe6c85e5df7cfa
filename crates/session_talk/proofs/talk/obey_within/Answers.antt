use Rattle.std.proofs.Common.{List, Some, sym, subst}
use Rattle.session_spec.specs.declared.Change.{Change}
use Rattle.session_input.specs.Readers.{order_of}
use Rattle.session_input.specs.declared.reading.Order.{Order}
use Rattle.session_talk.specs.Talking.{now_at, GoesOn, IsOrdered}
use Rattle.session_talk.proofs.AskLemmas.{keeps_same, turn_same}
use Rattle.session_talk.proofs.ReplyLemmas.{seen_at, seen_by, said_line}
use Rattle.session_talk.proofs.TurnLemmas.{within_change, within_commit, within_begin, within_map, within_end, memory_ordered, none_held}
use Rattle.session_talk.proofs.talk.obey_within.Goals as goal

pub returns-in-Err-clause-turns : goal.returns-in-Err-clause-turns
returns-in-Err-clause-turns g c first left source before is goes =
    let out = g.O.Sink.state c.args.out.now in
    let gone = g.O.Sink.state c.tell.new.out in
    seen_at before is
    (memory_ordered first c.args.number before left source out (Some c.args.edit) (order_of c.args.order) gone c.tell.result goes (said_line c.memory_line.ensures c.tell.ensures.ends))

pub returns-in-Err-clause-asks : goal.returns-in-Err-clause-asks
returns-in-Err-clause-asks g c =
    turn_same (Some c.tell.result) (g.E.Editor.looks c.args.editor.now)

pub returns-in-Ok-clause-turns : goal.returns-in-Ok-clause-turns
returns-in-Ok-clause-turns g c first left source before is goes =
    let out = g.O.Sink.state c.args.out.now in
    seen_at before is
    (subst (λ (held : List Change). GoesOn first (now_at before left (Some held) source out)) (sym c.in-Ok.ensures)
    (within_change first c.args.number before left source out c.args.edit c.in-Change.change (subst (λ (o : Order). IsOrdered c.args.number (order_of o) first (now_at before left (Some c.args.edit) source out)) c.in-Change.is goes)))

pub returns-in-Ok-clause-asks : goal.returns-in-Ok-clause-asks
returns-in-Ok-clause-asks g c =
    keeps_same (g.E.Editor.looks c.args.editor.now)

pub returns-in-Commit-clause-turns : goal.returns-in-Commit-clause-turns
returns-in-Commit-clause-turns g c first left source before is goes =
    let out = g.O.Sink.state c.args.out.now in
    let gone = g.O.Sink.state c.make.new.out in
    seen_by (c.make.ensures.makes before is) (λ later made. none_held first later left c.args.held.now source gone c.make.result c.requires
    (within_commit first c.args.number before left source out c.args.edit later gone c.make.result (subst (λ (o : Order). IsOrdered c.args.number (order_of o) first (now_at before left (Some c.args.edit) source out)) c.in-Commit.is goes) made))

pub returns-in-Begin-clause-turns : goal.returns-in-Begin-clause-turns
returns-in-Begin-clause-turns g c first left source before is goes =
    let out = g.O.Sink.state c.args.out.now in
    let gone = g.O.Sink.state c.refuse.new.out in
    seen_at before is
    (within_begin first c.args.number before left source out c.args.edit gone c.refuse.result (subst (λ (o : Order). IsOrdered c.args.number (order_of o) first (now_at before left (Some c.args.edit) source out)) c.in-Begin.is goes) c.refuse.ensures.tells)

pub returns-in-Begin-clause-asks : goal.returns-in-Begin-clause-asks
returns-in-Begin-clause-asks g c =
    turn_same (Some c.refuse.result) (g.E.Editor.looks c.args.editor.now)

pub returns-in-Map-clause-turns : goal.returns-in-Map-clause-turns
returns-in-Map-clause-turns g c first left source before is goes =
    let out = g.O.Sink.state c.args.out.now in
    let gone = g.O.Sink.state c.refuse-in-Map.new.out in
    seen_at before is
    (within_map first c.args.number before left source out c.args.edit gone c.refuse-in-Map.result (subst (λ (o : Order). IsOrdered c.args.number (order_of o) first (now_at before left (Some c.args.edit) source out)) c.in-Map.is goes) c.refuse-in-Map.ensures.tells)

pub returns-in-Map-clause-asks : goal.returns-in-Map-clause-asks
returns-in-Map-clause-asks g c =
    turn_same (Some c.refuse-in-Map.result) (g.E.Editor.looks c.args.editor.now)

pub returns-in-End-clause-turns : goal.returns-in-End-clause-turns
returns-in-End-clause-turns g c first left source before is goes =
    let out = g.O.Sink.state c.args.out.now in
    let gone = g.O.Sink.state c.refuse-in-End.new.out in
    seen_at before is
    (within_end first c.args.number before left source out c.args.edit gone c.refuse-in-End.result (subst (λ (o : Order). IsOrdered c.args.number (order_of o) first (now_at before left (Some c.args.edit) source out)) c.in-End.is goes) c.refuse-in-End.ensures.tells)

pub returns-in-End-clause-asks : goal.returns-in-End-clause-asks
returns-in-End-clause-asks g c =
    turn_same (Some c.refuse-in-End.result) (g.E.Editor.looks c.args.editor.now)
