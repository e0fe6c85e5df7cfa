use Rattle.std.proofs.Common.{◌∙◌}
use Rattle.generator_core.proofs.checking.map_of.Goals as goal

pub returns-in-Ok-Some : goal.returns-in-Ok-Some
returns-in-Ok-Some c = c.map_at.ensures c.args.config.now (c.in-Ok-Some.ensures ∙ c.in-Ok-Some.field-0-is)
