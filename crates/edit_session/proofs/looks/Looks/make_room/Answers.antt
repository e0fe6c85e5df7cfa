use Rattle.edit_session.proofs.LooksAgree.{agrees_alike}
use Rattle.edit_session.proofs.looks.Looks.make_room.Goals as goal

pub invariant_of-self : goal.invariant_of-self
invariant_of-self c = record {
  agree = agrees_alike c.args.self.now.changed.items c.args.self.now.known.laid c.make_room.new.self.laid c.args.self.now.over
      c.make_room-2.new.self c.make_room.ensures.laid c.make_room-2.ensures c.args.self.now.agree;
}
