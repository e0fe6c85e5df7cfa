use Rattle.std.proofs.Common.{Err, ap}
use Rattle.command_words.proofs.Orders.{copies_asked, root_refused}
use Rattle.command_words.proofs.Refusals.{folder_refused}
use Rattle.command_words.proofs.order.vendor_wanted.Goals as goal

pub returns-then-eq : goal.returns-then-eq
returns-then-eq c =
    folder_refused c.args.text.now c.bad_path.result
    (root_refused c.args.text.now c.eq.result c.eq.ensures c.if-eq.true) c.bad_path.ensures

pub returns-in-Ok : goal.returns-in-Ok
returns-in-Ok c =
    copies_asked c.args.text.now c.in-Ok.path c.eq.result c.in-Ok.ensures.path.0 c.in-Ok.ensures.path.1 c.eq.ensures
    c.if-eq.false

pub returns-in-Err-BadPath : goal.returns-in-Err-BadPath
returns-in-Err-BadPath c =
    folder_refused c.args.text.now c.bad_path-in-Err-BadPath.result
    (λ is. c.in-Err-BadPath.ensures.bad.0 (ap Err c.in-Err-BadPath.field-0-is) is.is_path) c.bad_path-in-Err-BadPath.ensures
