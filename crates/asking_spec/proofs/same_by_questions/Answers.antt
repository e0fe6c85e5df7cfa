use Rattle.asking_spec.proofs.AskingLemmas as lemma
use Rattle.asking_spec.proofs.same_by_questions.Goals as goal

pub returns : goal.returns
returns g c = lemma.same_by_questions
