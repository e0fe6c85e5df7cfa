use Rattle.edit_session.proofs.FrugalEdits.{opens_nothing}
use Rattle.edit_session.proofs.SessionCalls.{lacks_opening}
use Rattle.edit_session.proofs.session.Session.open.Goals as goal

pub open_by-requires : goal.open_by-requires
open_by-requires g c = rw c.conditions.ensures at c.in-Ok.ensures.kept

pub returns-in-Err-clause-opens : goal.returns-in-Err-clause-opens
returns-in-Err-clause-opens g c = lacks_opening c.args.config (g.F.Folder.state c.args.folder.now)

pub returns-in-Err-clause-by_trace : goal.returns-in-Err-clause-by_trace
returns-in-Err-clause-by_trace g c = opens_nothing c.args.config (g.F.Folder.state c.args.folder.now).holds c.args.steps.now
