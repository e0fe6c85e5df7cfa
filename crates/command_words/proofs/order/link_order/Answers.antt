use Rattle.command_words.proofs.Refusals.{link_refused}
use Rattle.command_words.proofs.order.link_order.Goals as goal

pub returns-in-Err : goal.returns-in-Err
returns-in-Err c = link_refused _ _ c.in-Err.fault c.in-Err.ensures
