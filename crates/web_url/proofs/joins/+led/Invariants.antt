use Rattle.std.proofs.Common.{length}
use Rattle.web_url.proofs.joins.+led.Given as goal

abbrev pub decreases-led : goal.decreases-led
decreases-led l = length l.text.now
