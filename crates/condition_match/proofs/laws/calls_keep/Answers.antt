-- the law, as it is proved over the definitions
use Rattle.condition_match.proofs.KeptCalls.{calls_keep}
use Rattle.condition_match.proofs.laws.calls_keep.Goals as goal

pub returns : goal.returns
returns g c = calls_keep _
