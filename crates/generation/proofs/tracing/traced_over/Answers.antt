use Rattle.std.proofs.Common.{Result, subst}
use Rattle.trace_spec.specs.declared.TraceFault.{TraceFault}
use Rattle.request_trace.specs.Showing.{Traced, gathered_of}
use Rattle.request_trace.specs.Tracing.{Traces}
use Rattle.generation.proofs.Generatings.{stopped, traced_there}
use Rattle.generation.proofs.tracing.traced_over.Goals as goal

pub returns-in-Err-clause-traces : goal.returns-in-Err-clause-traces
returns-in-Err-clause-traces g c =
    let before = g.F.Folder.state c.args.folder.now in
    let after = g.F.Folder.state c.trace.new.folder in
    stopped c.args.config.now before after c.args.known.now c.trace.new.known c.in-Err.fault c.stop_of.result
    (subst (λ (r : Result Traced TraceFault). Traces c.args.config.now before c.args.known.now (gathered_of r) after c.trace.new.known) c.in-Err.is c.trace.ensures.traces) c.stop_of.ensures

pub returns-in-Ok-clause-traces : goal.returns-in-Ok-clause-traces
returns-in-Ok-clause-traces g c =
    let before = g.F.Folder.state c.args.folder.now in
    let after = g.F.Folder.state c.trace.new.folder in
    traced_there c.args.config.now before after c.args.known.now c.trace.new.known c.in-Ok.trace.gathered
    (subst (λ (r : Result Traced TraceFault). Traces c.args.config.now before c.args.known.now (gathered_of r) after c.trace.new.known) c.in-Ok.is c.trace.ensures.traces)
