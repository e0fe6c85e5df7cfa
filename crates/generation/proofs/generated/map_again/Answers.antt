use Rattle.generation.proofs.Generatings.{unserved}
use Rattle.generation.proofs.generated.map_again.Goals as goal

pub returns-in-Err-clause-maps : goal.returns-in-Err-clause-maps
returns-in-Err-clause-maps c = unserved c.args.config.now c.args.trace.now.gathered c.in-Err.stop c.in-Err.ensures.stopped
