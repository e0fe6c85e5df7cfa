use Rattle.std.proofs.Common.{rules}
use Rattle.layout.proofs.Grouping.{with_put}
use Rattle.layout.proofs.some.with_asked.Goals as goal

pub returns : goal.returns
returns c = with_put c.in_ok-collect.field-0.items c.insert.new.self.keys c.args.targets.keys c.args.asked.now c.in_ok-copy.field-0 (search rules) (search rules) (search rules)
