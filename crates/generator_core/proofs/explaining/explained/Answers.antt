use Rattle.std.proofs.Common.{Result, subst}
use Rattle.request_trace.specs.Showing.{Traced, gathered_of}
use Rattle.generation.specs.declared.stop.Stop.{Stop}
use Rattle.generation.specs.Generating.{Tracing}
use Rattle.generator_core.proofs.Explainings.{trace_stops_why, no_report, explains}
use Rattle.generator_core.proofs.explaining.explained.Goals as goal

pub returns-in-Err-clause-explains : goal.returns-in-Err-clause-explains
returns-in-Err-clause-explains g c =
    let before = g.F.Folder.state c.args.folder.now in
    let after = g.F.Folder.state c.traced.new.folder in
    trace_stops_why c.args.path.now c.args.config.now before after c.in-Err.stop (subst (λ (r : Result Traced Stop). Tracing c.args.config.now before (gathered_of r) after) c.in-Err.is c.traced.ensures.traces)

pub returns-in-Err-reported-clause-explains : goal.returns-in-Err-reported-clause-explains
returns-in-Err-reported-clause-explains g c =
    let before = g.F.Folder.state c.args.folder.now in
    let after = g.F.Folder.state c.traced.new.folder in
    no_report c.args.path.now c.args.config.now before after c.in-Ok.trace (subst (λ (r : Result Traced Stop). Tracing c.args.config.now before (gathered_of r) after) c.in-Ok.is c.traced.ensures.traces)

pub returns-in-Ok-reported-clause-explains : goal.returns-in-Ok-reported-clause-explains
returns-in-Ok-reported-clause-explains g c =
    let before = g.F.Folder.state c.args.folder.now in
    let after = g.F.Folder.state c.traced.new.folder in
    explains c.args.path.now c.args.config.now before after c.in-Ok.trace (subst (λ (r : Result Traced Stop). Tracing c.args.config.now before (gathered_of r) after) c.in-Ok.is c.traced.ensures.traces)
    c.in-Ok-reported.ensures.shows c.in-Ok-reported.ensures.linked c.in-Ok-reported.ensures.modules c.in-Ok.ensures.entries c.in-Ok-reported.report c.in-Ok-reported.ensures.says
