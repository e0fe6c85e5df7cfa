use Rattle.generator_spec.proofs.KeptPromises.{ends_keep_promises}
use Rattle.generator_spec.proofs.ends_keep_promises.Goals as goal

pub returns : goal.returns
returns c = ends_keep_promises
