use Rattle.generator_core.proofs.Strictnesses.{no_outline_fault}
use Rattle.generator_core.proofs.strictness.said.Goals as goal

pub unreachable-requires : goal.unreachable-requires
unreachable-requires g c =
    no_outline_fault c.args.text.now c.in-Err-Unreadable.field-0 c.requires c.in-Err-Unreadable.ensures.fault
    (λ same. absurd (let is = c.in-Err-Unreadable.field-0-is in cc))

pub unreachable-requires-in-Err-TooDeep : goal.unreachable-requires-in-Err-TooDeep
unreachable-requires-in-Err-TooDeep g c =
    no_outline_fault c.args.text.now c.in-Err-TooDeep.field-0 c.requires c.in-Err-TooDeep.ensures.fault
    (λ same. absurd (let is = c.in-Err-TooDeep.field-0-is in cc))

pub unreachable-requires-in-Err-TooManyRequests : goal.unreachable-requires-in-Err-TooManyRequests
unreachable-requires-in-Err-TooManyRequests g c =
    no_outline_fault c.args.text.now c.in-Err-TooManyRequests.field-0 c.requires c.in-Err-TooManyRequests.ensures.fault
    (λ same. absurd (let is = c.in-Err-TooManyRequests.field-0-is in cc))
