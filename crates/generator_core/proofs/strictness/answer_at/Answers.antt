use Rattle.std.proofs.Common.{subst, arith}
use Rattle.generator_core.specs.Strictness.{IsSaidAt}
use Rattle.generator_core.proofs.Strictnesses.{deep_found, memory_found}
use Rattle.generator_core.proofs.strictness.answer_at.Goals as goal

pub returns-in-Err-clause-finds : goal.returns-in-Err-clause-finds
returns-in-Err-clause-finds g c = memory_found c.args.trace.now.gathered c.args.place

pub returns-in-Ok-TooDeep-clause-finds : goal.returns-in-Ok-TooDeep-clause-finds
returns-in-Ok-TooDeep-clause-finds g c =
    let within = c.requires.within in
    deep_found c.args.trace.now.gathered c.args.place (omega (arith, within))
    (subst (IsSaidAt c.args.trace.now.gathered c.args.place) c.in-Ok-TooDeep.field-0-is c.in-Ok-TooDeep.ensures.said)
