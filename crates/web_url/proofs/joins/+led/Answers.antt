use Rattle.web_url.proofs.FileLemmas.{led_up}
use Rattle.web_url.proofs.joins.+led.Goals as goal

pub returns-in-Some-2 : goal.returns-in-Some-2
returns-in-Some-2 t c =
    led_up c.args.above.now c.in-Some-2.parent c.args.text.now c.in-Some.more.now c.led.result c.in-Some.ensures
    (rw c.in-Some-2.is at c.in_ok-parent-in-Some.ensures.parent) c.led.ensures
