use Rattle.config_spec.proofs.WordsJudged.{words_are_judged}
use Rattle.config_spec.proofs.words_are_judged.Goals as goal

pub returns : goal.returns
returns c = words_are_judged
