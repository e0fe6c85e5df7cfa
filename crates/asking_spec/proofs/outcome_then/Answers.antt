use Rattle.asking_spec.proofs.AskingLemmas as lemma
use Rattle.asking_spec.proofs.outcome_then.Goals as goal

pub returns : goal.returns
returns g c = lemma.outcome_then
