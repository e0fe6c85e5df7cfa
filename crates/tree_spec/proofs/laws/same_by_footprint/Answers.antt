use Rattle.tree_spec.proofs.Footprints.{same_by_footprint}
use Rattle.tree_spec.proofs.laws.same_by_footprint.Goals as goal

pub returns : goal.returns
returns g c = same_by_footprint
