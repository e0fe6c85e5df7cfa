use Rattle.std.proofs.Common.{[], refl, subst, ap, ◌∙◌}
use Rattle.generator_spec.specs.Ending.{Ends}
use Rattle.session_spec.specs.Replies.{accepted_line}
use Rattle.session_run.specs.Sessions.{wants}
use Rattle.session_run.proofs.TalkLemmas.{opened_cut, opened_replies}
use Rattle.session_run.proofs.sessions.shown.Goals as goal

pub returns-in-Err-clause-ends : goal.returns-in-Err-clause-ends
returns-in-Err-clause-ends g c =
    wants refl refl refl refl
    (subst (λ line. Ends 8 line (g.O.Sink.state c.args.out.now) (g.O.Sink.state c.tell.new.out) c.tell.result) c.memory_line.ensures c.tell.ensures.ends)

pub returns-in-Err-give-clause-ends : goal.returns-in-Err-give-clause-ends
returns-in-Err-give-clause-ends g c =
    opened_cut c.args.session (g.F.Folder.state c.args.folder.now) (g.I.Source.state c.args.input.now) (g.O.Sink.state c.args.out.now) (g.W.Watch.seen c.args.watch.now)
    c.as_slice.result.now (c.as_slice.ensures.value ∙ c.in-Ok.ensures ∙ ap accepted_line c.counts-counts.ensures) c.args.steps.now
    c.in-Err-give.field-0 (g.O.Sink.state c.give.new.self) c.in-Err-give.ensures.given

pub returns-clause-ends : goal.returns-clause-ends
returns-clause-ends g c =
    opened_replies c.args.session (g.F.Folder.state c.args.folder.now) (g.I.Source.state c.args.input.now) (g.O.Sink.state c.args.out.now) (g.W.Watch.seen c.args.watch.now)
    c.as_slice.result.now (c.as_slice.ensures.value ∙ c.in-Ok.ensures ∙ ap accepted_line c.counts-counts.ensures) c.args.steps.now
    (g.O.Sink.state c.give.new.self) (g.O.Sink.state c.talk-status.new.out) (g.F.Folder.state c.talk-status.new.folder) c.talk-status.new.session
    (g.I.Source.state c.talk-status.new.input) (g.W.Watch.seen c.talk-status.new.watch) c.talk-status.result c.talk-status.new.steps c.in-Ok-give.ensures.given
    c.talk-status.ensures.talks (c.talk-status.ensures.asks []).asks
