use Rattle.node_spec.proofs.OneOutcome.{answers_determine}
use Rattle.node_spec.proofs.answers_determine.Goals as goal

pub returns : goal.returns
returns c = answers_determine
