use Rattle.config_spec.specs.Words.{SetsConditions}
use Rattle.config_spec.specs.Words.SetsConditions.{none}
use Rattle.command_words.proofs.Orders.{conditions_given, nothing_given}
use Rattle.command_words.proofs.settings.conditions_set.Goals as goal

pub returns-in_default : goal.returns-in_default
returns-in_default c = nothing_given SetsConditions c.args.text none c.in_default.not-Some

pub returns-in-Ok : goal.returns-in-Ok
returns-in-Ok c =
    conditions_given c.args.text c.in-Some.text c.in-Ok.conditions c.in-Some.is c.in-Ok.ensures.names
    c.in-Ok.ensures.allowed
