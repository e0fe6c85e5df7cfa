use Rattle.edit_session.proofs.LooksAgree.{agrees_set}
use Rattle.edit_session.proofs.looks.Looks.set.Goals as goal

pub invariant_of-self-2 : goal.invariant_of-self-2
invariant_of-self-2 c = record {
  agree = rw (c.in_ok-push.ensures.items, c.in_ok-at.ensures.same)
      (agrees_set c.args.path.now c.args.self.now.changed.items c.args.self.now.known.laid c.args.self.now.over c.set.new.self
      c.args.look c.set.result c.set.ensures.set c.set.ensures.same c.args.self.now.agree);
}
