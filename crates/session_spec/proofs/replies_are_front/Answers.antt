use Rattle.session_spec.proofs.FreshMaps.{replies_are_front as law}
use Rattle.session_spec.proofs.replies_are_front.Goals as goal

pub returns : goal.returns
returns c = law
