use Rattle.config_spec.specs.Words.{SetsBase}
use Rattle.config_spec.specs.Words.SetsBase.{none}
use Rattle.command_words.proofs.Orders.{base_given, nothing_given}
use Rattle.command_words.proofs.settings.base_set.Goals as goal

pub returns-in_default : goal.returns-in_default
returns-in_default c = nothing_given SetsBase c.args.text none c.in_default.not-Some

pub returns-in-Ok : goal.returns-in-Ok
returns-in-Ok c = base_given c.args.text c.in-Some.text c.in-Ok.base c.in-Some.is c.in-Ok.ensures.base
