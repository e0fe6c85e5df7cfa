use Rattle.layout_spec.proofs.NestedPlaces.{places_nest}
use Rattle.layout_spec.proofs.places_nest.Goals as goal

pub returns : goal.returns
returns c = places_nest
