use Rattle.std.proofs.Common.{rules}
use Rattle.layout.proofs.Putting.{in_scope_there, in_scope_new}
use Rattle.layout.proofs.laid.put_in_scope.Goals as goal

pub returns-in_ok-insert-in-Some : goal.returns-in_ok-insert-in-Some
returns-in_ok-insert-in-Some c =
    let after = c.insert.new.self in
    in_scope_there c.args.scopes.now (c.get_mut.follows.lender after) c.args.place c.args.asked c.args.target c.in-Some.scope.now after (search rules) (search rules) ((c.get_mut.follows.holds after).3 (search rules))

pub returns-in_ok-insert-in-None-2 : goal.returns-in_ok-insert-in-None-2
returns-in_ok-insert-in-None-2 c =
    in_scope_new c.args.scopes.now c.insert-in-None-2.new.self c.args.place c.args.asked c.args.target c.new-scope.result c.insert-in-None.new.self (search rules) (search rules) (search rules) (search rules)
