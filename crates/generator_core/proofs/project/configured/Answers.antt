use Rattle.std.proofs.Common.{Err, subst}
use Rattle.command_words.specs.Orders.{settings_ordered}
use Rattle.config_spec.specs.Projects as spec
use Rattle.project_config.specs.Outcomes.{Comes}
use Rattle.generator_core.specs.Configuring.{FindsProject}
use Rattle.generator_core.proofs.Configurings.{project_stops, config_found, config_refused}
use Rattle.generator_core.proofs.project.configured.Goals as goal

pub returns-in-Err : goal.returns-in-Err
returns-in-Err g c = λ words is. project_stops words c.args.order is (g.F.Folder.state c.args.folder.now) (g.F.Folder.state c.project_in.new.folder) c.in-Err.stop (subst (λ r. FindsProject (g.F.Folder.state c.args.folder.now) r (g.F.Folder.state c.project_in.new.folder)) c.in-Err.is c.project_in.ensures)

pub returns-in-Ok-config_of : goal.returns-in-Ok-config_of
returns-in-Ok-config_of g c = λ words is.
    config_found words c.args.order is (g.F.Folder.state c.args.folder.now) (g.F.Folder.state c.project_in.new.folder) c.in-Ok.found (subst (λ r. FindsProject (g.F.Folder.state c.args.folder.now) r (g.F.Folder.state c.project_in.new.folder)) c.in-Ok.is c.project_in.ensures) c.in-Ok-config_of.config (c.in-Ok-config_of.ensures is.asked is.is_order)

pub returns-in-Err-Refused : goal.returns-in-Err-Refused
returns-in-Err-Refused g c = λ words is.
    config_refused words c.args.order is (g.F.Folder.state c.args.folder.now) (g.F.Folder.state c.project_in.new.folder) c.in-Ok.found (subst (λ r. FindsProject (g.F.Folder.state c.args.folder.now) r (g.F.Folder.state c.project_in.new.folder)) c.in-Ok.is c.project_in.ensures) c.in-Err-Refused.fault c.refused.result c.refused.ensures
    (subst (λ fault. Comes (spec.config_in is.asked (settings_ordered c.args.order) c.in-Ok.found) (Err fault)) c.in-Err-Refused.field-0-is (c.in-Err-Refused.ensures is.asked is.is_order))
