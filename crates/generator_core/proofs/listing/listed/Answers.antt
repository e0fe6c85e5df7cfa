use Rattle.std.proofs.Common.{Result, refl, subst}
use Rattle.request_trace.specs.Showing.{Traced, gathered_of}
use Rattle.generation.specs.declared.stop.Stop.{Stop}
use Rattle.generation.specs.Generating.{Tracing}
use Rattle.generator_core.proofs.Listings.{trace_stops_list, no_list, lists}
use Rattle.generator_core.proofs.listing.listed.Goals as goal

pub returns-in-Err-clause-lists : goal.returns-in-Err-clause-lists
returns-in-Err-clause-lists g c =
    let before = g.F.Folder.state c.args.folder.now in
    let after = g.F.Folder.state c.traced.new.folder in
    trace_stops_list c.args.config.now before after c.in-Err.stop (subst (λ (r : Result Traced Stop). Tracing c.args.config.now before (gathered_of r) after) c.in-Err.is c.traced.ensures.traces)

pub returns-in-Err-module_text-clause-lists : goal.returns-in-Err-module_text-clause-lists
returns-in-Err-module_text-clause-lists g c =
    let before = g.F.Folder.state c.args.folder.now in
    let after = g.F.Folder.state c.traced.new.folder in
    no_list c.args.config.now before after c.in-Ok.trace.gathered (subst (λ (r : Result Traced Stop). Tracing c.args.config.now before (gathered_of r) after) c.in-Ok.is c.traced.ensures.traces)

pub returns-in-Ok-module_text-clause-lists : goal.returns-in-Ok-module_text-clause-lists
returns-in-Ok-module_text-clause-lists g c =
    let before = g.F.Folder.state c.args.folder.now in
    let after = g.F.Folder.state c.traced.new.folder in
    lists c.args.config.now before after c.in-Ok.trace.gathered (subst (λ (r : Result Traced Stop). Tracing c.args.config.now before (gathered_of r) after) c.in-Ok.is c.traced.ensures.traces) _ refl c.in-Ok-module_text.ensures
