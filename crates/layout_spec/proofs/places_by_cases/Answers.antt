use Rattle.layout_spec.proofs.PlaceLemmas.{places_by_cases}
use Rattle.layout_spec.proofs.places_by_cases.Goals as goal

pub returns : goal.returns
returns c = places_by_cases
