use Rattle.config_spec.proofs.ConfigsFit.{configs_are_projects}
use Rattle.config_spec.proofs.configs_are_projects.Goals as goal

pub returns : goal.returns
returns c = configs_are_projects
