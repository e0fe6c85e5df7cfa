use Rattle.std.proofs.Common.{None, arith}
use Rattle.session_input.specs.Readers.{waiting}
use Rattle.session_talk.specs.Talking.{now_at}
use Rattle.session_talk.proofs.AskLemmas.{keeps_same, keeping_then, some_then}
use Rattle.session_talk.proofs.ReplyLemmas.{seen_at}
use Rattle.session_talk.proofs.TalkLemmas.{goes_begun}
use Rattle.session_talk.proofs.talk.converse.Goals as goal

pub loop-status-init : goal.loop-status-init
loop-status-init g c = (
  λ before is. seen_at before is
      (goes_begun before (waiting c.args.reader.now) (g.I.Source.state c.args.input.now) (g.O.Sink.state c.args.out.now) c.requires.unread c.requires.number c.requires.room),
  keeps_same (g.E.Editor.looks c.args.editor.now),
  omega arith,
)

pub loop-status-preserved : goal.loop-status-preserved
loop-status-preserved g c =
    let so_far = c.loop-status.invariant in
    let first_later = so_far.2 in
    let later = c.in-None.ensures.later in (
      λ before is.
          let here = so_far.0 before is in
          c.in-None.ensures.turns (now_at before (waiting c.args.reader.now) None (g.I.Source.state c.args.input.now) (g.O.Sink.state c.args.out.now)) here.at here.is here.holds,
      keeping_then (g.E.Editor.looks c.args.editor.now) (g.E.Editor.looks c.loop-status.editor) (g.E.Editor.looks c.turn.new.editor) so_far.1 c.in-None.ensures.asks,
      omega (arith, first_later, later),
    )

pub loop-status-smaller : goal.loop-status-smaller
loop-status-smaller g c = c.in-None.ensures.less

pub returns-in-Some-clause-converses : goal.returns-in-Some-clause-converses
returns-in-Some-clause-converses g c before is =
    let here = c.loop-status.invariant.0 before is in
    c.in-Some.ensures.turns (now_at before (waiting c.args.reader.now) None (g.I.Source.state c.args.input.now) (g.O.Sink.state c.args.out.now)) here.at here.is here.holds

pub returns-in-Some-clause-asks : goal.returns-in-Some-clause-asks
returns-in-Some-clause-asks g c =
    some_then (g.E.Editor.looks c.args.editor.now) (g.E.Editor.looks c.loop-status.editor) (g.E.Editor.looks c.turn.new.editor) c.loop-status.invariant.1 c.in-Some.ensures.asks

pub returns-in-Some-clause-later : goal.returns-in-Some-clause-later
returns-in-Some-clause-later g c =
    let first_later = c.loop-status.invariant.2 in
    let later = c.in-Some.ensures.later in
    omega (arith, first_later, later)
