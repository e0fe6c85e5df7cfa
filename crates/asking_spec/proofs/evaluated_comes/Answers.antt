use Rattle.asking_spec.proofs.EvaluationLemmas as lemma
use Rattle.asking_spec.proofs.evaluated_comes.Goals as goal

pub returns : goal.returns
returns g c = lemma.evaluated_comes
