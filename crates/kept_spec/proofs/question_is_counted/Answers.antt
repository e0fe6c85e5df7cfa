use Rattle.kept_spec.proofs.FrontLooks.{question_is_counted}
use Rattle.kept_spec.proofs.question_is_counted.Goals as goal

pub returns : goal.returns
returns g c = question_is_counted
