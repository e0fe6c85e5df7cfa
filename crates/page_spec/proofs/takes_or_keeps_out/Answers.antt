use Rattle.page_spec.proofs.KeptOut.{takes_or_keeps_out}
use Rattle.page_spec.proofs.takes_or_keeps_out.Goals as goal

pub returns : goal.returns
returns c = takes_or_keeps_out
