use Rattle.std.proofs.Common.{rules}
use Rattle.layout.proofs.Putting.{at_top}
use Rattle.layout.proofs.laid.Laid.put.Goals as goal

pub returns-then-is_empty : goal.returns-then-is_empty
returns-then-is_empty c =
    at_top c.args.place.now c.args.asked.now c.args.target.now c.in_ok-asked.asked c.in_ok-target.target c.args.self.now.imports c.insert.new.self c.args.self.now.scopes (search rules) (search rules) (search rules) c.in_ok-insert.ensures.updates
