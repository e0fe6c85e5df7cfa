use Rattle.session_spec.proofs.FaultsOfEdits.{faults_are_of_edits as law}
use Rattle.session_spec.proofs.faults_are_of_edits.Goals as goal

pub returns : goal.returns
returns c = law
