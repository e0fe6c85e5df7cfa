use Rattle.url_spec.proofs.OnePlace.{one_place as the_law}
use Rattle.url_spec.proofs.one_place.Goals as goal

pub returns : goal.returns
returns c = the_law
