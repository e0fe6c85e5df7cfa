use Rattle.url_spec.proofs.AgainstBases.{urls_against as the_law}
use Rattle.url_spec.proofs.urls_against.Goals as goal

pub returns : goal.returns
returns c = the_law
