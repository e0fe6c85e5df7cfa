use Rattle.condition_match.proofs.ConditionLemmas.{cut_there, cut_nowhere}
use Rattle.condition_match.proofs.conditions.cut_name.Goals as goal

pub returns-in-Some : goal.returns-in-Some
returns-in-Some c = cut_there _ _ _ c.in-Some.ensures.0 c.in-Some.ensures.1

pub returns-in-None : goal.returns-in-None
returns-in-None c = cut_nowhere _ c.in-None.ensures
