use Rattle.std.proofs.Common.{rules}
use Rattle.place_nodes.proofs.Finding.{sought_here, sought_on}
use Rattle.place_nodes.proofs.build.number_of.Goals as goal

pub returns-then-eq : goal.returns-then-eq
returns-then-eq c = sought_here c.args.texts.now c.loop-first.left.now c.in-Some.more.now c.args.text.now c.in-Some.first.now c.loop-first.number c.loop-first.invariant (search rules) (search rules)

pub loop-first-preserved : goal.loop-first-preserved
loop-first-preserved c = sought_on c.args.texts.now c.loop-first.left.now c.in-Some.more.now c.args.text.now c.in-Some.first.now c.loop-first.number c.loop-first.invariant (search rules) (search rules)
