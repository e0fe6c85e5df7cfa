use Rattle.std.proofs.Common.{subst}
use Rattle.config_spec.specs.declared.Command.TheVariants.{Refresh}
use Rattle.session_spec.specs.Openings.{refresh_words}
use Rattle.generator_core.specs.Configuring.{FindsConfig}
use Rattle.generator_core.proofs.HeldSessions.{ends_before, refreshes, stopped_ends}
use Rattle.generator_core.proofs.Runs.{config_still}
use Rattle.generator_core.proofs.running.hold.Goals as goal

pub returns-in-Ok : goal.returns-in-Ok
returns-in-Ok g c =
    let before = g.F.Folder.state c.args.folder.now in
    let middle = g.F.Folder.state c.configured.new.folder in
    let at = subst (λ r. FindsConfig refresh_words Refresh before r middle) c.in-Ok.is (c.configured.ensures refresh_words refreshes) in
    ends_before before middle (g.F.Folder.state c.session.new.folder) (g.I.Source.state c.args.input.now) (g.I.Source.state c.session.new.input) (g.O.Sink.state c.args.out.now) (g.O.Sink.state c.session.new.out) (g.W.Watch.seen c.args.watch.now) (g.W.Watch.seen c.session.new.watch) c.session.result c.args.steps.now c.session.new.steps at.found.looks
    at.asked (c.session.ensures.ends (config_still refresh_words Refresh c.in-Ok.config before middle at.found.looks.tree at.found.is))

pub returns-in-Err : goal.returns-in-Err
returns-in-Err g c =
    let before = g.F.Folder.state c.args.folder.now in
    let after = g.F.Folder.state c.configured.new.folder in
    let at = subst (λ r. FindsConfig refresh_words Refresh before r after) c.in-Err.is (c.configured.ensures refresh_words refreshes) in
    stopped_ends before after (g.I.Source.state c.args.input.now) (g.O.Sink.state c.args.out.now) (g.O.Sink.state c.close.new.out) (g.W.Watch.seen c.args.watch.now) c.close.result c.args.steps.now c.in-Err.stop at.stopped at.asked c.close.ensures.tells c.close.ensures.later
