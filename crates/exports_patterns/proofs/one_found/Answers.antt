use Rattle.exports_patterns.proofs.SameMatch.{one_found}
use Rattle.exports_patterns.proofs.one_found.Goals as goal

pub returns : goal.returns
returns c = one_found
