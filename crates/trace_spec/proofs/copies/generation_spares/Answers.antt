use Rattle.trace_spec.proofs.SparedWalks.{generation_spares}
use Rattle.trace_spec.proofs.copies.generation_spares.Goals as goal

pub returns : goal.returns
returns c = generation_spares
