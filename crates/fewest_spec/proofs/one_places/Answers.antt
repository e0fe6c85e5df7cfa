use Rattle.fewest_spec.proofs.OneLists.{one_places as law}
use Rattle.fewest_spec.proofs.one_places.Goals as goal

pub returns : goal.returns
returns c = law
