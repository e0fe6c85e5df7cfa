use Rattle.session_run.proofs.SessionLemmas.{opened_ends, refused_ends, asked_in}
use Rattle.session_run.proofs.sessions.session.Goals as goal

pub returns-in-Ok-clause-ends : goal.returns-in-Ok-clause-ends
returns-in-Ok-clause-ends g c is_config =
    opened_ends c.args.config (g.F.Folder.state c.args.folder.now) (g.F.Folder.state c.open.new.folder) c.in-Ok.session c.in-Ok.ensures.opens is_config c.args.steps.now c.open.new.steps c.in-Ok.ensures.steps.bounded c.in-Ok.ensures.by_trace
    (g.I.Source.state c.args.input.now) (g.O.Sink.state c.args.out.now) (g.O.Sink.state c.opened.new.out) c.opened.result c.opened.ensures.later
    (g.F.Folder.state c.opened.new.folder) (g.I.Source.state c.opened.new.input) (g.W.Watch.seen c.args.watch.now) (g.W.Watch.seen c.opened.new.watch) c.opened.new.steps c.opened.ensures.ends

pub returns-in-Ok-clause-asked : goal.returns-in-Ok-clause-asked
returns-in-Ok-clause-asked g c =
    asked_in c.args.config (g.F.Folder.state c.args.folder.now) (g.F.Folder.state c.open.new.folder) c.in-Ok.session c.in-Ok.ensures.opens
    (g.F.Folder.state c.opened.new.folder) (g.I.Source.state c.args.input.now) (g.I.Source.state c.opened.new.input) (g.O.Sink.state c.args.out.now) (g.O.Sink.state c.opened.new.out)
    (g.W.Watch.seen c.args.watch.now) (g.W.Watch.seen c.opened.new.watch) c.opened.result c.open.new.steps c.opened.new.steps c.opened.ensures.ends

pub returns-in-Err-clause-ends : goal.returns-in-Err-clause-ends
returns-in-Err-clause-ends g c is_config =
    refused_ends c.args.config (g.F.Folder.state c.args.folder.now) (g.F.Folder.state c.open.new.folder) (g.I.Source.state c.args.input.now) (g.O.Sink.state c.args.out.now)
    (g.O.Sink.state c.refuse-status.new.out) c.refuse-status.result c.refuse-status.ensures.later is_config c.args.steps.now c.open.new.steps c.in-Err.ensures.steps.bounded c.in-Err.ensures.by_trace (g.W.Watch.seen c.args.watch.now) c.in-Err.stop c.in-Err.ensures.opens c.refuse-status.ensures.tells

pub returns-in-Err-clause-asked : goal.returns-in-Err-clause-asked
returns-in-Err-clause-asked g c = c.in-Err.ensures.opens.asked
