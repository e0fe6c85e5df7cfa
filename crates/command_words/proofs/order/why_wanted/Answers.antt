use Rattle.std.proofs.Common.{Err, ap}
use Rattle.command_words.proofs.Orders.{path_asked}
use Rattle.command_words.proofs.Refusals.{path_refused}
use Rattle.command_words.proofs.order.why_wanted.Goals as goal

pub returns-in-Ok : goal.returns-in-Ok
returns-in-Ok c = path_asked c.args.text.now c.in-Ok.path c.in-Ok.ensures.path.0 c.in-Ok.ensures.path.1

pub returns-in-Err-BadPath : goal.returns-in-Err-BadPath
returns-in-Err-BadPath c =
    path_refused c.args.text.now c.bad_path.result
    (c.in-Err-BadPath.ensures.bad.0 (ap Err c.in-Err-BadPath.field-0-is)) c.bad_path.ensures
