use Rattle.node_spec.proofs.PatternChoice.{one_choice}
use Rattle.node_spec.proofs.one_choice.Goals as goal

pub returns : goal.returns
returns c = one_choice
