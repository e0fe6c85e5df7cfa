use Rattle.std.proofs.Common.{◌≡◌, ◌++◌, ◌∷◌, [], List, Some, None, sym, ap, ◌∙◌, subst}
use Rattle.session_spec.specs.declared.Change.{Change}
use Rattle.session_input.specs.Readers.{order_of}
use Rattle.session_input.specs.declared.reading.Order.{Order}
use Rattle.session_talk.specs.Talking.{now_at, GoesOn, IsOrdered, Makes}
use Rattle.session_talk.specs.EditorLooks.{TurnAsks}
use Rattle.session_talk.proofs.AskLemmas.{keeps_same, turn_same}
use Rattle.session_talk.proofs.ReplyLemmas.{seen_at, seen_by, said_line}
use Rattle.session_talk.proofs.TurnLemmas.{alone_change, alone_begin, alone_commit, alone_map, alone_end, memory_ordered, none_held}
use Rattle.session_talk.proofs.talk.obey_alone.Goals as goal

pub returns-in-Err-clause-turns : goal.returns-in-Err-clause-turns
returns-in-Err-clause-turns g c first left source before is goes =
    let out = g.O.Sink.state c.args.out.now in
    let gone = g.O.Sink.state c.tell.new.out in
    seen_at before is
    (memory_ordered first c.args.number before left source out None (order_of c.args.order) gone c.tell.result goes (said_line c.memory_line.ensures c.tell.ensures.ends))

pub returns-in-Err-clause-asks : goal.returns-in-Err-clause-asks
returns-in-Err-clause-asks g c =
    turn_same (Some c.tell.result) (g.E.Editor.looks c.args.editor.now)

pub returns-in-Change-clause-turns : goal.returns-in-Change-clause-turns
returns-in-Change-clause-turns g c first left source before is goes =
    let out = g.O.Sink.state c.args.out.now in
    let gone = g.O.Sink.state c.make.new.out in
    let one : c.push.new.self ≡ c.in-Change.change ∷ [] = c.in-Ok.ensures ∙ ap (λ (front : List Change). front ++ c.in-Change.change ∷ []) c.new-edit.ensures in
    seen_by (c.make.ensures.makes before is) (λ later made. none_held first later left c.args.held.now source gone c.make.result c.requires
    (alone_change first c.args.number before left source out c.in-Change.change later gone c.make.result (subst (λ (o : Order). IsOrdered c.args.number (order_of o) first (now_at before left None source out)) c.in-Change.is goes)
    (subst (λ (edit : List Change). Makes before edit out later gone c.make.result) one made)))

pub returns-in-Begin-clause-turns : goal.returns-in-Begin-clause-turns
returns-in-Begin-clause-turns g c first left source before is goes =
    let out = g.O.Sink.state c.args.out.now in
    seen_at before is
    (subst (λ (held : List Change). GoesOn first (now_at before left (Some held) source out)) (sym c.new.ensures)
    (alone_begin first c.args.number before left source out (subst (λ (o : Order). IsOrdered c.args.number (order_of o) first (now_at before left None source out)) c.in-Begin.is goes)))

pub returns-in-Begin-clause-asks : goal.returns-in-Begin-clause-asks
returns-in-Begin-clause-asks g c =
    keeps_same (g.E.Editor.looks c.args.editor.now)

pub returns-in-Commit-clause-turns : goal.returns-in-Commit-clause-turns
returns-in-Commit-clause-turns g c first left source before is goes =
    let out = g.O.Sink.state c.args.out.now in
    let gone = g.O.Sink.state c.refuse.new.out in
    seen_at before is
    (alone_commit first c.args.number before left source out gone c.refuse.result (subst (λ (o : Order). IsOrdered c.args.number (order_of o) first (now_at before left None source out)) c.in-Commit.is goes) c.refuse.ensures.tells)

pub returns-in-Commit-clause-asks : goal.returns-in-Commit-clause-asks
returns-in-Commit-clause-asks g c =
    turn_same (Some c.refuse.result) (g.E.Editor.looks c.args.editor.now)

pub returns-in-Map-clause-turns : goal.returns-in-Map-clause-turns
returns-in-Map-clause-turns g c first left source before is goes =
    let out = g.O.Sink.state c.args.out.now in
    let gone = g.O.Sink.state c.show.new.out in
    seen_at before (subst (λ editor. g.E.Editor.views editor before) (sym c.show.ensures.same) is)
    (none_held first before left c.args.held.now source gone c.show.result c.requires
    (alone_map first c.args.number before left source out gone c.show.result (subst (λ (o : Order). IsOrdered c.args.number (order_of o) first (now_at before left None source out)) c.in-Map.is goes) (c.show.ensures.shows before is)))

pub returns-in-Map-clause-asks : goal.returns-in-Map-clause-asks
returns-in-Map-clause-asks g c =
    subst (λ editor. TurnAsks c.show.result (g.E.Editor.looks c.args.editor.now) (g.E.Editor.looks editor)) (sym c.show.ensures.same) (turn_same c.show.result (g.E.Editor.looks c.args.editor.now))

pub returns-clause-turns : goal.returns-clause-turns
returns-clause-turns g c first left source before is goes =
    let out = g.O.Sink.state c.args.out.now in
    let gone = g.O.Sink.state c.tell-in-End.new.out in
    seen_at before is
    (alone_end first c.args.number before left source out gone c.tell-in-End.result (subst (λ (o : Order). IsOrdered c.args.number (order_of o) first (now_at before left None source out)) c.in-End.is goes) (said_line c.end_line.ensures c.tell-in-End.ensures.ends))

pub returns-clause-asks : goal.returns-clause-asks
returns-clause-asks g c =
    turn_same (Some c.tell-in-End.result) (g.E.Editor.looks c.args.editor.now)
