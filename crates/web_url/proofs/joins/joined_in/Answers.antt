use Rattle.web_url.proofs.FileLemmas.{joined_here}
use Rattle.web_url.proofs.joins.joined_in.Goals as goal

pub returns-in-Some : goal.returns-in-Some
returns-in-Some c = joined_here c.args.above.now c.args.text.now c.in-Some.rest.now c.led.result c.in-Some.ensures c.led.ensures
