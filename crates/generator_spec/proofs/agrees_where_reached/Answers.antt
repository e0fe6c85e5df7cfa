use Rattle.generator_spec.proofs.Agreements.{agrees_where_reached}
use Rattle.generator_spec.proofs.agrees_where_reached.Goals as goal

pub returns : goal.returns
returns c = agrees_where_reached
