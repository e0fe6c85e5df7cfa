use Rattle.std.proofs.Common.{rules, sym, ◌∙◌}
use Rattle.scope_builder.proofs.Values.{not_there, other_stays, value_there}
use Rattle.scope_builder.proofs.keyed.put_at.Goals as goal

pub returns-then-eq : goal.returns-then-eq
returns-then-eq g c = value_there c.args.pairs.now.items c.args.key.now c.args.value c.args.place c.in-Some.pair.now c.requires.order (search rules) c.in-Some.ensures.value (sym c.eq.ensures ∙ c.if-eq.true)

pub returns-else-eq : goal.returns-else-eq
returns-else-eq g c = other_stays c.args.pairs.now.items c.args.key.now c.args.value c.args.place c.in-Some.pair.now c.requires.order c.requires.place (search rules) c.in-Some.ensures.value (sym c.eq.ensures ∙ c.if-eq.false)

pub returns-in_default : goal.returns-in_default
returns-in_default g c = not_there c.args.pairs.now.items c.args.key.now c.args.value c.args.place c.requires.place (search rules)
