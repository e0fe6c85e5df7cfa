use Rattle.std.proofs.Common.{subst}
use Rattle.config_spec.specs.declared.Command.TheVariants.{Inject}
use Rattle.generation.specs.Generating.{Generating}
use Rattle.generator_core.proofs.Preparings.{lacks, page_opens, page_stopped, page_ready}
use Rattle.generator_core.proofs.prepared.prepare_at.Goals as goal

pub returns-in-Err-clause-prepares : goal.returns-in-Err-clause-prepares
returns-in-Err-clause-prepares g c =
    let before = g.F.Folder.state c.args.folder.now in
    let after = g.F.Folder.state c.generate.new.folder in
    λ takes stands. page_stopped c.args.config.now before after c.args.site.now takes stands c.in-Err.stop (subst (λ r. Generating c.args.config.now before r after) c.in-Err.is c.generate.ensures.generates)

pub returns-in-Err-page_file-clause-prepares : goal.returns-in-Err-page_file-clause-prepares
returns-in-Err-page_file-clause-prepares g c =
    let before = g.F.Folder.state c.args.folder.now in
    let after = g.F.Folder.state c.generate.new.folder in
    λ takes stands. lacks c.args.config.now before after Inject (page_opens c.args.config.now before after c.args.site.now takes stands) c.in-Ok.generated (subst (λ r. Generating c.args.config.now before r after) c.in-Ok.is c.generate.ensures.generates)

pub returns-clause-prepares : goal.returns-clause-prepares
returns-clause-prepares g c =
    let before = g.F.Folder.state c.args.folder.now in
    let after = g.F.Folder.state c.generate.new.folder in
    λ takes stands. page_ready c.args.config.now before after c.args.site.now takes stands c.in-Ok.generated c.in-Ok-page_file.prepared c.in-Ok.ensures.page (subst (λ r. Generating c.args.config.now before r after) c.in-Ok.is c.generate.ensures.generates) c.in-Ok-page_file.ensures
