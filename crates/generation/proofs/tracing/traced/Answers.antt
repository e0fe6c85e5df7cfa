use Rattle.request_trace.specs.Showing.{gathered_of}
use Rattle.generation.proofs.Generatings.{steps_fresh, traced_fresh}
use Rattle.generation.proofs.tracing.traced.Goals as goal

pub returns-clause-traces : goal.returns-clause-traces
returns-clause-traces g c =
    traced_fresh c.args.config.now (g.F.Folder.state c.args.folder.now) (g.F.Folder.state c.traced_over.new.folder) c.new-known.result c.traced_over.new.known
    (record { kept = c.new-known.ensures.kept; laid = c.new-known.ensures.laid }) (gathered_of c.traced_over.result) c.traced_over.ensures.traces

pub returns-clause-to_end : goal.returns-clause-to_end
returns-clause-to_end g c =
    steps_fresh c.args.config.now (g.F.Folder.state c.args.folder.now) (g.F.Folder.state c.traced_over.new.folder) c.new-known.result c.traced_over.new.known
    (record { kept = c.new-known.ensures.kept; laid = c.new-known.ensures.laid }) _ _ c.traced_over.ensures.to_end
