use Rattle.url_spec.proofs.OnePlace.{one_served as the_law}
use Rattle.url_spec.proofs.one_served.Goals as goal

pub returns : goal.returns
returns c = the_law
