use Rattle.page_spec.proofs.Injections.{one_map_after}
use Rattle.page_spec.proofs.one_map_after.Goals as goal

pub returns : goal.returns
returns c = one_map_after
