use Rattle.project_file.proofs.PartLemmas.{all_described, not_described}
use Rattle.project_file.proofs.reading.described.Goals as goal

pub returns-in-None : goal.returns-in-None
returns-in-None c = not_described _ c.in-None.ensures

pub returns-in-Some : goal.returns-in-Some
returns-in-Some c = all_described _ c.in-Some.written c.filled.result c.in-Some.ensures c.filled.ensures
