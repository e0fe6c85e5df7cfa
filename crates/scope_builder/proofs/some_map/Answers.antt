use Rattle.scope_builder.proofs.KeyOrder.{some_map}
use Rattle.scope_builder.proofs.some_map.Goals as goal

pub returns : goal.returns
returns c = some_map
