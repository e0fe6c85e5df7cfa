use Rattle.project_spec.specs.ProjectFiles.{many_entries, no_project}
use Rattle.project_file.proofs.PartLemmas.{few_given}
use Rattle.project_file.proofs.reading.config_of.Goals as goal

pub returns-in_default : goal.returns-in_default
returns-in_default c = no_project (rw c.in_default.is at c.in_ok-project.ensures)

pub returns-in-None : goal.returns-in-None
returns-in-None c = many_entries (rw c.in-Some.is at c.in_ok-project.ensures) c.in-None.ensures

pub returns-in-Some-into_config : goal.returns-in-Some-into_config
returns-in-Some-into_config c = few_given (rw c.in-Some.is at c.in_ok-project.ensures) c.in-Some-into_config.ensures.0 c.in-Some-into_config.ensures.1
