use Rattle.std.proofs.Common.{Result, subst}
use Rattle.request_trace.specs.Showing.{Traced, gathered_of}
use Rattle.generation.specs.declared.stop.Stop.{Stop}
use Rattle.generation.specs.Generating.{Tracing}
use Rattle.generator_core.proofs.StepsByTrace.{check_fits, checked_fits}
use Rattle.generator_core.proofs.Checkings.{asks_checking, trace_stops, report_told}
use Rattle.generator_core.proofs.checking.checked_by.Goals as goal

pub returns-in-Err-clause-checks : goal.returns-in-Err-clause-checks
returns-in-Err-clause-checks g c = λ holds command asks.
    let before = g.F.Folder.state c.args.folder.now in
    let after = g.F.Folder.state c.traced.new.folder in
    trace_stops c.args.config.now before after c.args.parsed.now holds command (asks_checking command c.args.strictly asks) c.in-Err.stop (subst (λ (r : Result Traced Stop). Tracing c.args.config.now before (gathered_of r) after) c.in-Err.is c.traced.ensures.traces)

pub returns-in-Ok-clause-checks : goal.returns-in-Ok-clause-checks
returns-in-Ok-clause-checks g c = λ holds command asks.
    let before = g.F.Folder.state c.args.folder.now in
    let after = g.F.Folder.state c.traced.new.folder in
    report_told c.args.config.now before after c.args.parsed.now holds command (asks_checking command c.args.strictly asks) c.in-Ok.trace.gathered (subst (λ (r : Result Traced Stop). Tracing c.args.config.now before (gathered_of r) after) c.in-Ok.is c.traced.ensures.traces) c.report_of-said.result (c.report_of-said.ensures.reports command asks)

pub returns-in-Err-clause-by_trace : goal.returns-in-Err-clause-by_trace
returns-in-Err-clause-by_trace g c = λ holds command asking.
    let before = g.F.Folder.state c.args.folder.now in
    let after = g.F.Folder.state c.traced.new.folder in
    check_fits command c.args.strictly asking c.args.config.now before after c.args.parsed.now holds c.args.steps.now c.traced.new.steps c.traced.new.steps c.traced.ensures.to_end

pub returns-in-Ok-clause-by_trace : goal.returns-in-Ok-clause-by_trace
returns-in-Ok-clause-by_trace g c = λ holds command asking.
    let before = g.F.Folder.state c.args.folder.now in
    let after = g.F.Folder.state c.traced.new.folder in
    checked_fits command c.args.strictly asking c.args.config.now before after c.args.parsed.now holds c.args.steps.now c.traced.new.steps c.report_of-said.new.steps c.in-Ok.trace.gathered
    (subst (λ (r : Result Traced Stop). Tracing c.args.config.now before (gathered_of r) after) c.in-Ok.is c.traced.ensures.traces)
    c.traced.ensures.to_end c.report_of-said.ensures.counted
