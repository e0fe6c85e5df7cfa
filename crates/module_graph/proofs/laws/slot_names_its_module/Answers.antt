use Rattle.module_graph.proofs.Naming.{names_its_module}
use Rattle.module_graph.proofs.laws.slot_names_its_module.Goals as goal

pub returns : goal.returns
returns c = names_its_module
