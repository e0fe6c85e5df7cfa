use Rattle.tree_spec.proofs.OneLook.{one_look}
use Rattle.tree_spec.proofs.laws.one_look.Goals as goal

pub returns : goal.returns
returns c = one_look
