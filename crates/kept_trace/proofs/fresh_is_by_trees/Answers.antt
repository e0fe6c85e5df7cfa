use Rattle.kept_trace.proofs.FreshQuestions.{fresh_is_by_trees}
use Rattle.kept_trace.proofs.fresh_is_by_trees.Goals as goal

pub returns : goal.returns
returns c = fresh_is_by_trees
