use Rattle.session_spec.proofs.PutFiles.{put_places as law}
use Rattle.session_spec.proofs.put_places.Goals as goal

pub returns : goal.returns
returns c = law
