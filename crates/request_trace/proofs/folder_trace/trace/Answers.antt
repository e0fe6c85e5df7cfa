use Rattle.std.proofs.Common.{◌+◌, Result, length, sym, ap, ◌∙◌, subst}
use Rattle.trace_spec.specs.declared.TraceFault.{TraceFault}
use Rattle.trace_spec.specs.declared.TraceFault.TheVariants.{Memory}
use Rattle.trace_walk.proofs.FaultKinds.{handed}
use Rattle.trace_walk.specs.Shown.{before_of}
use Rattle.trace_walk.specs.Walking.{module_requests}
use Rattle.request_trace.specs.Footprints.{IsFootprint}
use Rattle.request_trace.specs.Showing.{Traced, gathered_of}
use Rattle.request_trace.specs.Tracing.{Traces}
use Rattle.request_trace.proofs.AnswerLemmas.{traces_nothing}
use Rattle.request_trace.proofs.AskedQuestions.{takes_nothing}
use Rattle.request_trace.proofs.JoinedTables.{traces_lost, as_trace, takes_trace}
use Rattle.request_trace.proofs.NamedModules.{named_at_base}
use Rattle.request_trace.proofs.folder_trace.trace.Goals as goal

pub returns-in_err-trace-clause-traces : goal.returns-in_err-trace-clause-traces
returns-in_err-trace-clause-traces g c =
    let before = g.F.Folder.state c.args.folder.now in
    let after = g.F.Folder.state c.tables_of.new.folder in
    subst (λ (r : Result Traced TraceFault). Traces c.args.config.now before c.args.known.now (gathered_of r) after c.tables_of.new.known)
    (sym (handed c.from_residual-in_err-trace.result Memory c.from_residual-in_err-trace.ensures.1))
    (traces_lost c.args.config.now before after c.args.known.now c.tables_of.new.known (before_of c.in_ok-tables.tables) c.in_ok-tables.ensures.traces.traces)

pub returns-clause-traces : goal.returns-clause-traces
returns-clause-traces g c =
    as_trace c.args.config.now (g.F.Folder.state c.args.folder.now) (g.F.Folder.state c.tables_of.new.folder) c.args.known.now c.tables_of.new.known
    (before_of c.in_ok-tables.tables) c.in_ok-trace.trace.gathered c.in_ok-trace.ensures.gathered c.in_ok-tables.ensures.traces.traces

pub returns-clause-footprint : goal.returns-clause-footprint
returns-clause-footprint g c =
    subst (IsFootprint c.args.config.now (g.F.Folder.state c.args.folder.now) c.args.known.now c.tables_of.new.known)
    (sym c.in_ok-trace.ensures.footprint) c.in_ok-tables.ensures.footprint

pub returns-clause-entries : goal.returns-clause-entries
returns-clause-entries g c = c.in_ok-trace.ensures.entries

pub returns-clause-steps : goal.returns-clause-steps
returns-clause-steps g c = record {
  counted = takes_trace c.in_ok-tables.tables c.in_ok-trace.trace.gathered _ _ c.in_ok-trace.ensures.gathered c.in_ok-tables.ensures.traces.steps.counted;
  bounded = c.in_ok-tables.ensures.traces.steps.bounded;
}

pub trace_of-requires : goal.trace_of-requires
trace_of-requires g c = c.in_ok-tables.ensures.traces.tables
