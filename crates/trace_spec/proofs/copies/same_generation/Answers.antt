use Rattle.trace_spec.proofs.CopiedTraces.{same_generation}
use Rattle.trace_spec.proofs.copies.same_generation.Goals as goal

pub returns : goal.returns
returns c = same_generation
