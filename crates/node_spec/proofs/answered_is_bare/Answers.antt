use Rattle.node_spec.proofs.BareSpecifiers.{answered_is_bare}
use Rattle.node_spec.proofs.answered_is_bare.Goals as goal

pub returns : goal.returns
returns c = answered_is_bare
