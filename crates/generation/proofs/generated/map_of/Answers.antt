use Rattle.std.proofs.Common.{subst}
use Rattle.fewest_spec.specs.Wishes.{HasTooManyChoices}
use Rattle.generation.proofs.Generatings.{too_wide}
use Rattle.generation.proofs.generated.map_of.Goals as goal

pub returns-in-Err-TooManyChoices-clause-maps : goal.returns-in-Err-TooManyChoices-clause-maps
returns-in-Err-TooManyChoices-clause-maps c =
    too_wide c.args.config.now c.args.trace.now.gathered c.too_many_choices.result c.too_many_choices.ensures
    (subst HasTooManyChoices c.needs.ensures.needs (c.in-Err-TooManyChoices.ensures.many c.in-Err-TooManyChoices.field-0-is))
