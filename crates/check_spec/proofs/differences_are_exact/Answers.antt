use Rattle.check_spec.proofs.DifferenceLemmas as lemmas
use Rattle.check_spec.proofs.differences_are_exact.Goals as goal

pub returns : goal.returns
returns c = lemmas.differences_are_exact
