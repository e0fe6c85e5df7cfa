use Rattle.std.proofs.Common.{Result, subst}
use Rattle.request_trace.specs.Showing.{Traced, gathered_of}
use Rattle.generation.specs.declared.generated.Generated.{Generated}
use Rattle.generation.specs.declared.stop.Stop.{Stop}
use Rattle.generation.specs.Generating.{TracingOver}
use Rattle.generation.specs.Mapping.{MapsTrace}
use Rattle.generation.proofs.Generatings.{refused_so, mapped}
use Rattle.generation.proofs.generated.generate_traced.Goals as goal

pub returns-in-Err-clause-generates : goal.returns-in-Err-clause-generates
returns-in-Err-clause-generates g c =
    let before = g.F.Folder.state c.args.folder.now in
    let after = g.F.Folder.state c.traced_over.new.folder in
    refused_so c.args.config.now before after c.args.known.now c.traced_over.new.known c.in-Err.stop
    (subst (λ (r : Result Traced Stop). TracingOver c.args.config.now before c.args.known.now (gathered_of r) after c.traced_over.new.known) c.in-Err.is c.traced_over.ensures.traces)

pub returns-in-Ok-map_of-clause-generates : goal.returns-in-Ok-map_of-clause-generates
returns-in-Ok-map_of-clause-generates g c =
    let before = g.F.Folder.state c.args.folder.now in
    let after = g.F.Folder.state c.traced_over.new.folder in
    mapped c.args.config.now before after c.args.known.now c.traced_over.new.known c.in-Ok.trace.gathered _
    (subst (λ (r : Result Traced Stop). TracingOver c.args.config.now before c.args.known.now (gathered_of r) after c.traced_over.new.known) c.in-Ok.is c.traced_over.ensures.traces)
    (subst (λ (r : Result Generated Stop). MapsTrace c.args.config.now c.in-Ok.trace.gathered r) c.in-Ok-map_of.is c.map_of.ensures.maps)

pub returns-in-Err-map_of-clause-generates : goal.returns-in-Err-map_of-clause-generates
returns-in-Err-map_of-clause-generates g c =
    let before = g.F.Folder.state c.args.folder.now in
    let after = g.F.Folder.state c.traced_over.new.folder in
    mapped c.args.config.now before after c.args.known.now c.traced_over.new.known c.in-Ok.trace.gathered _
    (subst (λ (r : Result Traced Stop). TracingOver c.args.config.now before c.args.known.now (gathered_of r) after c.traced_over.new.known) c.in-Ok.is c.traced_over.ensures.traces)
    (subst (λ (r : Result Generated Stop). MapsTrace c.args.config.now c.in-Ok.trace.gathered r) c.in-Err-map_of.is c.map_of.ensures.maps)
