use Rattle.session_spec.proofs.TreesStay.{edits_keep_tree as law}
use Rattle.session_spec.proofs.edits_keep_tree.Goals as goal

pub returns : goal.returns
returns c = law
