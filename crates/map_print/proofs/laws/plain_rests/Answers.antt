use Rattle.map_print.proofs.PlainRests.{plain_rests}
use Rattle.map_print.proofs.laws.plain_rests.Goals as goal

pub returns : goal.returns
returns c = plain_rests
