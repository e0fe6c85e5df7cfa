use Rattle.std.proofs.Common.{Ok, Err}
use Rattle.session_run.proofs.EditLemmas.{few_steps, accepted_seen, accepted_asks, stopped_seen, stopped_asks}
use Rattle.session_run.proofs.edits.make_edit.Goals as goal

pub accept-requires : goal.accept-requires
accept-requires g c = c.in-Ok.ensures.prepares.pending

pub returns-in-Ok-clause-edits : goal.returns-in-Ok-clause-edits
returns-in-Ok-clause-edits g c view is =
    accepted_seen (g.F.Folder.state c.args.folder.now) (g.F.Folder.state c.prepare.new.folder) c.args.session.now c.prepare.new.self c.args.edit.now view (g.W.Watch.seen c.args.watch.now) c.args.steps.now c.prepare.new.steps (few_steps (g.F.Folder.state c.args.folder.now) (g.F.Folder.state c.prepare.new.folder) c.args.session.now c.prepare.new.self c.args.edit.now (Ok tt) c.args.steps.now c.prepare.new.steps c.in-Ok.ensures.prepares c.in-Ok.ensures.steps) c.in-Ok.ensures.fresh is
    c.accept.new.session (g.W.Watch.seen c.accept.new.watch) c.in-Ok.ensures.prepares c.accept.ensures.commits c.accept.result c.accept.ensures.says

pub returns-in-Ok-clause-asks : goal.returns-in-Ok-clause-asks
returns-in-Ok-clause-asks g c references =
    accepted_asks references (g.F.Folder.state c.args.folder.now) (g.F.Folder.state c.prepare.new.folder) c.args.session.now c.prepare.new.self
    c.accept.new.session c.accept.ensures.commits.kept c.args.edit.now c.accept.result c.in-Ok.ensures.prepares

pub returns-in-Err-clause-edits : goal.returns-in-Err-clause-edits
returns-in-Err-clause-edits g c view is =
    stopped_seen (g.F.Folder.state c.args.folder.now) (g.F.Folder.state c.prepare.new.folder) c.args.session.now c.prepare.new.self c.args.edit.now view (g.W.Watch.seen c.args.watch.now) c.args.steps.now c.prepare.new.steps (few_steps (g.F.Folder.state c.args.folder.now) (g.F.Folder.state c.prepare.new.folder) c.args.session.now c.prepare.new.self c.args.edit.now (Err c.in-Err.stop) c.args.steps.now c.prepare.new.steps c.in-Err.ensures.prepares c.in-Err.ensures.steps) c.in-Err.ensures.fresh is
    c.in-Err.stop c.stopped-line.result c.in-Err.ensures.prepares c.stopped-line.ensures

pub returns-in-Err-clause-asks : goal.returns-in-Err-clause-asks
returns-in-Err-clause-asks g c references =
    stopped_asks references (g.F.Folder.state c.args.folder.now) (g.F.Folder.state c.prepare.new.folder) c.args.session.now c.prepare.new.self
    c.args.edit.now c.in-Err.stop c.stopped-line.result c.in-Err.ensures.prepares c.stopped-line.ensures
