use Rattle.generation.specs.Generating.StopsAs.{failed_look, memory, refused}
use Rattle.generation.proofs.stop.stop_of.Goals as goal

pub returns-in-ReadFault : goal.returns-in-ReadFault
returns-in-ReadFault c = failed_look c.in-ReadFault.is

pub returns-in-Memory : goal.returns-in-Memory
returns-in-Memory c = memory c.in-Memory.is

pub returns-in_default : goal.returns-in_default
returns-in_default c = refused c.in_default.not-ReadFault c.in_default.not-Memory
