use Rattle.std.proofs.Common.{Ok, Err, subst, sym}
use Rattle.tree_spec.specs.declared.LimitName.TheVariants.{File}
use Rattle.tree_spec.specs.Limits.{limit_number}
use Rattle.tree_spec.specs.States.{IsLooked}
use Rattle.project_spec.specs.ProjectFiles as spec
use Rattle.project_spec.specs.ProjectFiles.{ReadsProject}
use Rattle.project_file.specs.Outcomes.{IsNoProject}
use Rattle.generator_core.specs.Configuring.{FindsProject}
use Rattle.generator_core.proofs.Configurings.{project_absent, project_folder, project_too_large, project_read, project_refused}
use Rattle.generator_core.proofs.project.project_at.Goals as goal

pub returns-in-Ok-Absent : goal.returns-in-Ok-Absent
returns-in-Ok-Absent g c = λ is_path. project_absent c.args.path.now is_path (g.F.Folder.state c.args.folder.now) (g.F.Folder.state c.look.new.self) (subst (λ found. IsLooked (g.F.Folder.state c.args.folder.now) c.args.path.now (limit_number File) (Ok found) (g.F.Folder.state c.look.new.self)) c.in-Ok-Absent.field-0-is c.in-Ok-Absent.ensures.looked)

pub returns-in-Ok-Folder : goal.returns-in-Ok-Folder
returns-in-Ok-Folder g c = λ is_path. project_folder c.args.path.now is_path (g.F.Folder.state c.args.folder.now) (g.F.Folder.state c.look.new.self) (subst (λ found. IsLooked (g.F.Folder.state c.args.folder.now) c.args.path.now (limit_number File) (Ok found) (g.F.Folder.state c.look.new.self)) c.in-Ok-Folder.field-0-is c.in-Ok-Folder.ensures.looked)

pub returns-in-Ok-TooLarge : goal.returns-in-Ok-TooLarge
returns-in-Ok-TooLarge g c = λ is_path. subst (λ stop. FindsProject (g.F.Folder.state c.args.folder.now) (Err stop) (g.F.Folder.state c.look.new.self)) (sym c.without_project.ensures) (project_too_large c.args.path.now is_path (g.F.Folder.state c.args.folder.now) (g.F.Folder.state c.look.new.self) (subst (λ found. IsLooked (g.F.Folder.state c.args.folder.now) c.args.path.now (limit_number File) (Ok found) (g.F.Folder.state c.look.new.self)) c.in-Ok-TooLarge.field-0-is c.in-Ok-TooLarge.ensures.looked))

pub returns-in-Ok : goal.returns-in-Ok
returns-in-Ok g c = λ is_path. project_read c.args.path.now is_path (g.F.Folder.state c.args.folder.now) (g.F.Folder.state c.look.new.self) c.in-Ok-File.bytes c.in-Ok.config (subst (λ found. IsLooked (g.F.Folder.state c.args.folder.now) c.args.path.now (limit_number File) (Ok found) (g.F.Folder.state c.look.new.self)) c.in-Ok-File.field-0-is c.in-Ok-File.ensures.looked) (subst (λ bytes. ReadsProject bytes (Ok c.in-Ok.config)) c.as_slice.ensures c.in-Ok.ensures.reads)

pub returns-in-Err-BadFile : goal.returns-in-Err-BadFile
returns-in-Err-BadFile g c = λ is_path.
    subst (λ stop. FindsProject (g.F.Folder.state c.args.folder.now) (Err stop) (g.F.Folder.state c.look.new.self)) (sym c.without_project-in-Err-BadFile.ensures)
    (project_refused c.args.path.now is_path (g.F.Folder.state c.args.folder.now) (g.F.Folder.state c.look.new.self) c.in-Ok-File.bytes (spec.BadFile c.in-Err-BadFile.at) (subst (λ found. IsLooked (g.F.Folder.state c.args.folder.now) c.args.path.now (limit_number File) (Ok found) (g.F.Folder.state c.look.new.self)) c.in-Ok-File.field-0-is c.in-Ok-File.ensures.looked)
    (subst (λ bytes. ReadsProject bytes (Err (spec.BadFile c.in-Err-BadFile.at))) c.as_slice.ensures (subst (IsNoProject c.as_slice.result.now) c.in-Err-BadFile.field-0-is c.in-Err-BadFile.ensures.reads)))

pub returns-in-Err-Limit : goal.returns-in-Err-Limit
returns-in-Err-Limit g c = λ is_path.
    subst (λ stop. FindsProject (g.F.Folder.state c.args.folder.now) (Err stop) (g.F.Folder.state c.look.new.self)) (sym c.without_project-in-Err-Limit.ensures)
    (project_refused c.args.path.now is_path (g.F.Folder.state c.args.folder.now) (g.F.Folder.state c.look.new.self) c.in-Ok-File.bytes (spec.PassesLimit c.in-Err-Limit.which) (subst (λ found. IsLooked (g.F.Folder.state c.args.folder.now) c.args.path.now (limit_number File) (Ok found) (g.F.Folder.state c.look.new.self)) c.in-Ok-File.field-0-is c.in-Ok-File.ensures.looked)
    (subst (λ bytes. ReadsProject bytes (Err (spec.PassesLimit c.in-Err-Limit.which))) c.as_slice.ensures (subst (IsNoProject c.as_slice.result.now) c.in-Err-Limit.field-0-is c.in-Err-Limit.ensures.reads)))
