use Rattle.fewest_spec.proofs.Alike.{fewest_in_any_order as law}
use Rattle.fewest_spec.proofs.fewest_in_any_order.Goals as goal

pub returns : goal.returns
returns c = law
