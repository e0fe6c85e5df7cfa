use Rattle.config_spec.proofs.Options.{options_are_judged}
use Rattle.config_spec.proofs.options_are_judged.Goals as goal

pub returns : goal.returns
returns c = options_are_judged
