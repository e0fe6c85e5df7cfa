use Rattle.tree_spec.proofs.Placings.{one_placing}
use Rattle.tree_spec.proofs.laws.one_placing.Goals as goal

pub returns : goal.returns
returns c = one_placing
