use Rattle.config_spec.proofs.Configs.{configs_are_judged}
use Rattle.config_spec.proofs.configs_are_judged.Goals as goal

pub returns : goal.returns
returns c = configs_are_judged
