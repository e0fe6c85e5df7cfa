use Rattle.std.proofs.Common.{Result, sym, subst}
use Rattle.trace_spec.specs.declared.TraceFault.{TraceFault}
use Rattle.trace_spec.specs.declared.TraceFault.TheVariants.{Memory}
use Rattle.trace_walk.proofs.FaultKinds.{handed}
use Rattle.trace_walk.specs.Shown.{before_of}
use Rattle.request_trace.specs.Footprints.{IsFootprint}
use Rattle.request_trace.specs.Showing.{Traced, gathered_of}
use Rattle.request_trace.proofs.JoinedTables.{traces_lost, as_trace, takes_trace}
use Rattle.kept_answers.specs.RightAnswers.{untold}
use Rattle.kept_trace.specs.Ready.{AreAllRight}
use Rattle.kept_trace.specs.Tracing.{TracesIf}
use Rattle.kept_trace.proofs.Readying.{right_with_none, right_still}
use Rattle.kept_trace.proofs.RightMeetings.{traces_told}
use Rattle.kept_trace.proofs.kept.TraceAnswers.trace.Goals as goal

pub trace_of-requires : goal.trace_of-requires
trace_of-requires g c = c.in_ok-tables.ensures.tables

pub returns-in_err-trace-clause-traces : goal.returns-in_err-trace-clause-traces
returns-in_err-trace-clause-traces g c =
    let before = g.F.Folder.state c.args.folder.now in
    let after = g.F.Folder.state c.tables_again.new.folder in
    let right = AreAllRight c.args.self.now.kept in
    subst (λ (r : Result Traced TraceFault). TracesIf right c.args.config.now before c.args.known.now (gathered_of r) after c.tables_again.new.known)
    (sym (handed c.from_residual-in_err-trace.result Memory c.from_residual-in_err-trace.ensures.1))
    (traces_told _ right c.args.config.now before after c.args.known.now c.tables_again.new.known _ _
    (right_with_none _ c.args.self.now.kept c.clear.new.self c.clear.ensures)
    (λ from to. traces_lost c.args.config.now from to c.args.known.now c.tables_again.new.known (before_of c.in_ok-tables.tables))
    c.in_ok-tables.ensures.traces)

pub returns-clause-traces : goal.returns-clause-traces
returns-clause-traces g c =
    traces_told _ (AreAllRight c.args.self.now.kept) c.args.config.now (g.F.Folder.state c.args.folder.now)
    (g.F.Folder.state c.tables_again.new.folder) c.args.known.now c.tables_again.new.known _ _
    (right_with_none _ c.args.self.now.kept c.clear.new.self c.clear.ensures)
    (λ from to. as_trace c.args.config.now from to c.args.known.now c.tables_again.new.known
    (before_of c.in_ok-tables.tables) c.in_ok-trace.trace.gathered c.in_ok-trace.ensures.gathered)
    c.in_ok-tables.ensures.traces

pub returns-clause-footprint : goal.returns-clause-footprint
returns-clause-footprint g c = λ right.
    subst (IsFootprint c.args.config.now (g.F.Folder.state c.args.folder.now) c.args.known.now c.tables_again.new.known)
    (sym c.in_ok-trace.ensures.footprint)
    (c.in_ok-tables.ensures.footprint (right_with_none _ c.args.self.now.kept c.clear.new.self c.clear.ensures right))

pub returns-clause-looked : goal.returns-clause-looked
returns-clause-looked g c =
    subst (IsFootprint c.args.config.now (untold (g.F.Folder.state c.args.folder.now)) c.args.known.now c.tables_again.new.known)
    (sym c.in_ok-trace.ensures.footprint) c.in_ok-tables.ensures.looked

pub returns-clause-steps : goal.returns-clause-steps
returns-clause-steps g c = record {
  counted = takes_trace c.in_ok-tables.tables c.in_ok-trace.trace.gathered _ _ c.in_ok-trace.ensures.gathered c.in_ok-tables.ensures.steps.counted;
  bounded = c.in_ok-tables.ensures.steps.bounded;
}

pub returns-clause-fresh : goal.returns-clause-fresh
returns-clause-fresh g c = λ right.
    c.tables_again.ensures.fresh (right_with_none _ c.args.self.now.kept c.clear.new.self c.clear.ensures right)

pub returns-clause-keeps : goal.returns-clause-keeps
returns-clause-keeps g c = λ right.
    c.in_ok-tables.ensures.keeps (right_with_none _ c.args.self.now.kept c.clear.new.self c.clear.ensures right)

pub returns-in_err-tables-clause-right : goal.returns-in_err-tables-clause-right
returns-in_err-tables-clause-right g c =
    right_still c.args.self.now.kept c.clear.new.self c.tables_again.new.next _ (g.F.Folder.state c.args.folder.now).holds
    c.clear.ensures c.tables_again.ensures.right

pub returns-in_err-trace-clause-right : goal.returns-in_err-trace-clause-right
returns-in_err-trace-clause-right g c =
    right_still c.args.self.now.kept c.clear.new.self c.tables_again.new.next _ (g.F.Folder.state c.args.folder.now).holds
    c.clear.ensures c.tables_again.ensures.right

pub returns-clause-right : goal.returns-clause-right
returns-clause-right g c =
    right_still c.args.self.now.kept c.clear.new.self c.tables_again.new.next _ (g.F.Folder.state c.args.folder.now).holds
    c.clear.ensures c.tables_again.ensures.right

pub returns-in_err-tables-clause-fresh : goal.returns-in_err-tables-clause-fresh
returns-in_err-tables-clause-fresh g c = λ right.
    c.tables_again.ensures.fresh (right_with_none _ c.args.self.now.kept c.clear.new.self c.clear.ensures right)

pub returns-in_err-trace-clause-fresh : goal.returns-in_err-trace-clause-fresh
returns-in_err-trace-clause-fresh g c = λ right.
    c.tables_again.ensures.fresh (right_with_none _ c.args.self.now.kept c.clear.new.self c.clear.ensures right)

pub returns-in_err-tables-clause-traces : goal.returns-in_err-tables-clause-traces
returns-in_err-tables-clause-traces g c =
    let before = g.F.Folder.state c.args.folder.now in
    let after = g.F.Folder.state c.tables_again.new.folder in
    let right = AreAllRight c.args.self.now.kept in
    subst (λ (r : Result Traced TraceFault). TracesIf right c.args.config.now before c.args.known.now (gathered_of r) after c.tables_again.new.known)
    (sym (handed c.from_residual.result _ c.from_residual.ensures.1))
    (traces_told _ right c.args.config.now before after c.args.known.now c.tables_again.new.known _ _
    (right_with_none _ c.args.self.now.kept c.clear.new.self c.clear.ensures)
    (λ from to traces. traces) c.in_err-tables.ensures.traces)
