-- The numbers of a module's text are those of the limits.
use Rattle.std.proofs.Common.{refl}
use Rattle.trace_spec.specs.Laws.{LimitsOfTexts}

pub limits_of_texts : LimitsOfTexts
limits_of_texts = record { brackets = refl; requests = refl }
