use Rattle.node_spec.proofs.NodeLemmas.{gives_file}
use Rattle.node_spec.proofs.gives_file.Goals as goal

pub returns : goal.returns
returns c = gives_file
