use Rattle.std.proofs.Common.{Result, subst}
use Rattle.request_trace.specs.Showing.{Traced}
use Rattle.generation.specs.declared.generated.Generated.{Generated}
use Rattle.generation.specs.declared.stop.Stop.{Stop}
use Rattle.generation.specs.Generating.{GeneratingOver, generated_of}
use Rattle.generation.proofs.generated.generate_over.Goals as goal

pub returns-in-Err-clause-generates : goal.returns-in-Err-clause-generates
returns-in-Err-clause-generates g c =
    subst (λ (r : Result (Generated × Traced) Stop). GeneratingOver c.args.config.now (g.F.Folder.state c.args.folder.now)
    c.args.known.now (generated_of r) (g.F.Folder.state c.generate_traced.new.folder) c.generate_traced.new.known)
    c.in-Err.is c.generate_traced.ensures.generates

pub returns-in-Ok-clause-generates : goal.returns-in-Ok-clause-generates
returns-in-Ok-clause-generates g c =
    subst (λ (r : Result (Generated × Traced) Stop). GeneratingOver c.args.config.now (g.F.Folder.state c.args.folder.now)
    c.args.known.now (generated_of r) (g.F.Folder.state c.generate_traced.new.folder) c.generate_traced.new.known)
    c.in-Ok.is c.generate_traced.ensures.generates
