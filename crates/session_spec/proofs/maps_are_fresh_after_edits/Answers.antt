use Rattle.session_spec.proofs.FreshMaps.{maps_are_fresh_after_edits as law}
use Rattle.session_spec.proofs.maps_are_fresh_after_edits.Goals as goal

pub returns : goal.returns
returns c = law
