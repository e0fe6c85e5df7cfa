use Rattle.tree_spec.proofs.FootprintSets.{footprint_is_set}
use Rattle.tree_spec.proofs.laws.footprint_is_set.Goals as goal

pub returns : goal.returns
returns g c = footprint_is_set
