use Rattle.web_url.proofs.FileLemmas.{joined_up}
use Rattle.web_url.proofs.joins.joined_above.Goals as goal

pub returns-in-Some : goal.returns-in-Some
returns-in-Some c = joined_up c.args.above.now c.args.text.now c.in-Some.field-0.now c.led.result c.in-Some.ensures c.led.ensures
