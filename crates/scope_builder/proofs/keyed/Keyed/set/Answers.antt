use Rattle.scope_builder.proofs.Values.{value_in_order}
use Rattle.scope_builder.proofs.keyed.Keyed.set.Goals as goal

pub invariant_of-self : goal.invariant_of-self
invariant_of-self g c = value_in_order c.self.inside.items.items c.put_at.new.pairs.items c.args.key.now c.args.value c.put_at.ensures c.self.invariant
