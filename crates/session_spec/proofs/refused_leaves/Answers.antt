use Rattle.session_spec.proofs.Replying.{refused_leaves as law}
use Rattle.session_spec.proofs.refused_leaves.Goals as goal

pub returns : goal.returns
returns c = law
