use Rattle.node_spec.proofs.PatternChoice.{some_choice}
use Rattle.node_spec.proofs.some_choice.Goals as goal

pub returns : goal.returns
returns c = some_choice
