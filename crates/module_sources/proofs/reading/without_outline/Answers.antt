use Rattle.std.proofs.Common.{Err, sym, ◌∙◌}
use Rattle.module_spec.specs.declared.request.ModuleFault.TheVariants.{Unreadable, TooDeep, TooManyRequests}
use Rattle.module_sources.proofs.SourceAnswers.{outline_of}
use Rattle.module_sources.proofs.reading.without_outline.Goals as goal

pub returns-in-Unreadable-clause-source : goal.returns-in-Unreadable-clause-source
returns-in-Unreadable-clause-source c = λ text bytes is_detected fault.
    c.unreadable.ensures.source
    ∙ sym (outline_of text is_detected bytes (Err (Unreadable c.in-Unreadable.at)) (rw c.in-Unreadable.is at fault))

pub returns-in-TooDeep-clause-source : goal.returns-in-TooDeep-clause-source
returns-in-TooDeep-clause-source c = λ text bytes is_detected fault.
    sym (outline_of text is_detected bytes (Err TooDeep) (rw c.in-TooDeep.is at fault))

pub returns-in-TooManyRequests-clause-source : goal.returns-in-TooManyRequests-clause-source
returns-in-TooManyRequests-clause-source c = λ text bytes is_detected fault.
    sym (outline_of text is_detected bytes (Err TooManyRequests) (rw c.in-TooManyRequests.is at fault))
