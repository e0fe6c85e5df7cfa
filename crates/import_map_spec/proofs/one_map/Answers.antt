-- the law, as it is proved over the definitions
use Rattle.import_map_spec.proofs.OneMap.{one_map}
use Rattle.import_map_spec.proofs.one_map.Goals as goal

pub returns : goal.returns
returns c = one_map
