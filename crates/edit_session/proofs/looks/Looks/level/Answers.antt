use Rattle.edit_session.proofs.LooksAgree.{agrees_same}
use Rattle.edit_session.proofs.looks.Looks.level.Goals as goal

pub make_level-requires : goal.make_level-requires
make_level-requires c =
    rw (c.laid.ensures, c.as_slice.ensures.value)
    (agrees_same c.args.self.now.changed.items c.args.self.now.known.laid c.args.self.now.over c.make_room.new.self
    c.make_room.ensures c.args.self.now.agree)

pub returns-clause-level : goal.returns-clause-level
returns-clause-level c = λ path. (rw c.laid.ensures at c.in_ok-make_level.ensures.level) path
