use Rattle.asking_spec.proofs.AskingLemmas as lemma
use Rattle.asking_spec.proofs.questions_then.Goals as goal

pub returns : goal.returns
returns g c = lemma.questions_then
