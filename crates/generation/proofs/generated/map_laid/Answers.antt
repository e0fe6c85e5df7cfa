use Rattle.std.proofs.Common.{Err, ap, ◌∙◌}
use Rattle.generation.proofs.Generatings.{is_map, too_large}
use Rattle.generation.proofs.generated.map_laid.Goals as goal

pub returns-in-Ok-clause-maps : goal.returns-in-Ok-clause-maps
returns-in-Ok-clause-maps c = is_map c.args.config.now c.args.trace.now.gathered c.in-Ok.generated c.in-Ok.ensures.map

pub returns-in-Err-MapTooLarge-clause-maps : goal.returns-in-Err-MapTooLarge-clause-maps
returns-in-Err-MapTooLarge-clause-maps c =
    too_large c.args.config.now c.args.trace.now.gathered c.too_large.result c.too_large.ensures
    (c.printed.ensures.too_large (c.in-Err-MapTooLarge.is ∙ ap Err c.in-Err-MapTooLarge.field-0-is))
