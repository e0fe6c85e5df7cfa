use Rattle.layout.proofs.Putting.{laid_lists}
use Rattle.layout.proofs.laid.Laid.into_layout.Goals as goal

pub returns : goal.returns
returns c =
    laid_lists c.args.self.imports c.args.self.scopes c.in_ok-from_map.field-0 c.in_ok-listed.field-0 c.in_ok-from_map.ensures.entries c.in_ok-from_map.ensures.in_order c.in_ok-listed.ensures.scopes c.in_ok-listed.ensures.in_order.0 c.in_ok-listed.ensures.in_order.1
