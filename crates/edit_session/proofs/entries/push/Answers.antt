use Rattle.std.specs.Prelude.{is_ok}
use Rattle.edit_session.proofs.DraftsMade.{pushed_or_not}
use Rattle.edit_session.proofs.entries.push.Goals as goal

pub returns-clause-entries : goal.returns-clause-entries
returns-clause-entries c = λ is.
    pushed_or_not (is_ok c.push.result) c.args.entries.now c.push.new.self c.args.entry c.push.ensures c.requires.new
    c.requires.room is
