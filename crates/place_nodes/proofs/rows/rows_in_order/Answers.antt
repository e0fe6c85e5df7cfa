use Rattle.std.proofs.Common.{rules}
use Rattle.place_nodes.proofs.Sorting.{sorted_in_order, same_needs}
use Rattle.place_nodes.proofs.rows.rows_in_order.Goals as goal

pub returns-clause-order : goal.returns-clause-order
returns-clause-order c = sorted_in_order c.sort.new.self.items (search rules)

pub returns-clause-same : goal.returns-clause-same
returns-clause-same c = same_needs c.args.needs.now c.in_ok-rows.rows.items c.sort.new.self.items (search rules) (search rules)
