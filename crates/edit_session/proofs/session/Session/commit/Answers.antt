use Rattle.std.proofs.Common.{refl, rules}
use Rattle.edit_session.proofs.SessionCalls.{committed, committed_same}
use Rattle.edit_session.proofs.session.Session.commit.Goals as goal

pub returns-in-Some-Same : goal.returns-in-Some-Same
returns-in-Some-Same c = committed_same c.args.self.now _ (search rules) (search rules) refl refl refl refl refl

pub returns-in-Some-Changed : goal.returns-in-Some-Changed
returns-in-Some-Changed c =
    committed c.args.self.now _ c.in-Some-Changed.pending (search rules) (search rules) c.step.ensures.step
