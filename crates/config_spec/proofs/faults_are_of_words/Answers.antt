use Rattle.config_spec.proofs.FaultsOfWords.{faults_are_of_words}
use Rattle.config_spec.proofs.faults_are_of_words.Goals as goal

pub returns : goal.returns
returns c = faults_are_of_words
