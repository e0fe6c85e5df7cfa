use Rattle.session_spec.proofs.Replying.{edits_join as law}
use Rattle.session_spec.proofs.edits_join.Goals as goal

pub returns : goal.returns
returns c = law
