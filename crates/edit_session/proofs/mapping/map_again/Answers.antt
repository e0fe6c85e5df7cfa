use Rattle.std.proofs.Common.{Result, subst}
use Rattle.trace_spec.specs.declared.TraceFault.{TraceFault}
use Rattle.request_trace.specs.Showing.{Traced, gathered_of}
use Rattle.kept_trace.specs.Ready.{AreAllRight}
use Rattle.kept_trace.specs.Tracing.{TracesIf}
use Rattle.edit_session.proofs.MapsAgain.{stopped_if, mapped_if, leaves_answers, on_ok, plans_so}
use Rattle.edit_session.proofs.ShownTraces.{keeps_itself}
use Rattle.edit_session.proofs.mapping.map_again.Goals as goal

pub returns-in-Err-clause-generates : goal.returns-in-Err-clause-generates
returns-in-Err-clause-generates g c =
    let before = g.F.Folder.state c.args.folder.now in
    let after = g.F.Folder.state c.trace.new.folder in
    stopped_if (AreAllRight c.args.answers.now.kept) c.args.config.now before after c.args.known.now c.trace.new.known
    c.in-Err.fault c.stop_of.result
    (subst
    (λ (r : Result Traced TraceFault). TracesIf (AreAllRight c.args.answers.now.kept) c.args.config.now before
    c.args.known.now (gathered_of r) after c.trace.new.known)
    c.in-Err.is c.trace.ensures.traces) c.stop_of.ensures

pub returns-in-Ok-clause-generates : goal.returns-in-Ok-clause-generates
returns-in-Ok-clause-generates g c =
    let before = g.F.Folder.state c.args.folder.now in
    let after = g.F.Folder.state c.trace.new.folder in
    mapped_if (AreAllRight c.args.answers.now.kept) c.args.config.now before after c.args.known.now c.trace.new.known
    c.in-Ok.trace.gathered c.map_with_plan.result
    (subst
    (λ (r : Result Traced TraceFault). TracesIf (AreAllRight c.args.answers.now.kept) c.args.config.now before
    c.args.known.now (gathered_of r) after c.trace.new.known)
    c.in-Ok.is c.trace.ensures.traces) c.map_with_plan.ensures.maps

pub returns-in-Ok-clause-keeps : goal.returns-in-Ok-clause-keeps
returns-in-Ok-clause-keeps g c =
    on_ok c.map_with_plan.result
    (leaves_answers c.args.config.now (g.F.Folder.state c.args.folder.now) c.args.known.now c.args.answers.now.kept
    c.trace.new.self c.trace.ensures.kept (rw c.in-Ok.is at c.trace.ensures.keeps) c.trace.ensures.right)

pub returns-in-Err-clause-shown : goal.returns-in-Err-clause-shown
returns-in-Err-clause-shown g c = keeps_itself c.args.shown.now.links

pub returns-in-Ok-clause-plans : goal.returns-in-Ok-clause-plans
returns-in-Ok-clause-plans g c =
    let before = g.F.Folder.state c.args.folder.now in
    let after = g.F.Folder.state c.trace.new.folder in
    plans_so (AreAllRight c.args.answers.now.kept) c.args.config.now before after c.args.known.now c.trace.new.known c.in-Ok.trace
    c.args.shown.now.links c.map_with_plan.new.shown c.map_with_plan.result
    (subst
    (λ (r : Result Traced TraceFault). TracesIf (AreAllRight c.args.answers.now.kept) c.args.config.now before
    c.args.known.now (gathered_of r) after c.trace.new.known)
    c.in-Ok.is c.trace.ensures.traces) (rw c.in-Ok.is at c.trace.ensures.entries) c.map_with_plan.ensures.shown c.map_with_plan.ensures.planned
