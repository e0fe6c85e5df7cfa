use Rattle.config_spec.specs.Words.{SetsPage}
use Rattle.config_spec.specs.Words.SetsPage.{none}
use Rattle.command_words.proofs.Orders.{nothing_given, page_given}
use Rattle.command_words.proofs.settings.page_set.Goals as goal

pub returns-in_default : goal.returns-in_default
returns-in_default c = nothing_given SetsPage c.args.text none c.in_default.not-Some

pub returns-in-Ok : goal.returns-in-Ok
returns-in-Ok c =
    page_given c.args.text c.in-Some.text c.in-Ok.page c.eq.result c.in-Some.is c.in-Ok.ensures.path.0
    c.in-Ok.ensures.path.1 c.eq.ensures c.if-eq.false
