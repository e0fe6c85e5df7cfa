use Rattle.std.proofs.Common.{map}
use Rattle.std.specs.Prelude.{string_bytes}
use Rattle.words_parse.specs.Shown.{shown}
use Rattle.command_words.proofs.Orders.{of_words}
use Rattle.command_words.proofs.order.order_of.Goals as goal

pub returns-in-Ok : goal.returns-in-Ok
returns-in-Ok c =
    of_words (map string_bytes c.args.words.now) (shown c.in-Ok.parsed) c.order_parsed.result c.in-Ok.ensures.asks
    c.order_parsed.ensures
