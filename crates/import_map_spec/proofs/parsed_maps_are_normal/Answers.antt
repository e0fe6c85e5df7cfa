-- the law, as it is proved over the definitions
use Rattle.import_map_spec.proofs.ParsedMaps.{parsed_maps_are_normal}
use Rattle.import_map_spec.proofs.parsed_maps_are_normal.Goals as goal

pub returns : goal.returns
returns c = parsed_maps_are_normal
