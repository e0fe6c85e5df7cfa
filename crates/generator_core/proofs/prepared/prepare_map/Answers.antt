use Rattle.std.proofs.Common.{subst}
use Rattle.generation.specs.Generating.{Generating}
use Rattle.generator_core.proofs.Preparings.{lacks, map_opens, map_stopped, map_ready}
use Rattle.generator_core.proofs.prepared.prepare_map.Goals as goal

pub returns-in-Err-clause-prepares : goal.returns-in-Err-clause-prepares
returns-in-Err-clause-prepares g c =
    let before = g.F.Folder.state c.args.folder.now in
    let after = g.F.Folder.state c.generate.new.folder in
    λ command kept. map_stopped c.args.config.now before after command c.args.keeps kept c.in-Err.stop (subst (λ r. Generating c.args.config.now before r after) c.in-Err.is c.generate.ensures.generates)

pub returns-in-Err-map_files-clause-prepares : goal.returns-in-Err-map_files-clause-prepares
returns-in-Err-map_files-clause-prepares g c =
    let before = g.F.Folder.state c.args.folder.now in
    let after = g.F.Folder.state c.generate.new.folder in
    λ command kept. lacks c.args.config.now before after command (map_opens c.args.config.now before after command c.args.keeps kept) c.in-Ok.generated (subst (λ r. Generating c.args.config.now before r after) c.in-Ok.is c.generate.ensures.generates)

pub returns-in-Ok-map_files-clause-prepares : goal.returns-in-Ok-map_files-clause-prepares
returns-in-Ok-map_files-clause-prepares g c =
    let before = g.F.Folder.state c.args.folder.now in
    let after = g.F.Folder.state c.generate.new.folder in
    λ command kept. map_ready c.args.config.now before after command c.args.keeps kept c.in-Ok.generated c.in-Ok-map_files.prepared c.in-Ok.ensures.page (subst (λ r. Generating c.args.config.now before r after) c.in-Ok.is c.generate.ensures.generates) c.in-Ok-map_files.ensures
