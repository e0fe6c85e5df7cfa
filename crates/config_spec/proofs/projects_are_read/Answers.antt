use Rattle.config_spec.proofs.ProjectsRead.{projects_are_read}
use Rattle.config_spec.proofs.projects_are_read.Goals as goal

pub returns : goal.returns
returns c = projects_are_read
