use Rattle.session_spec.proofs.SessionDoing.{doings_talk as law}
use Rattle.session_spec.proofs.doings_talk.Goals as goal

pub returns : goal.returns
returns c = law
