use Rattle.need_table.proofs.Found.{no_clash}
use Rattle.need_table.proofs.needs.Needs.len.Goals as goal

pub returns-clause-no_clash : goal.returns-clause-no_clash
returns-clause-no_clash c = rw (← c.self.view_is) (no_clash c.self.inside.rows.keys c.len.ensures.unique)

pub returns-clause-unique : goal.returns-clause-unique
returns-clause-unique c = rw (← c.self.view_is) c.len.ensures.unique
