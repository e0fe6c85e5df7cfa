use Rattle.std.proofs.Common.{◌∙◌}
use Rattle.project_config.proofs.NewProject.{named, can_be}
use Rattle.project_config.proofs.defaults.first_conditions.Goals as goal

pub unreachable-requires : goal.unreachable-requires
unreachable-requires c = c.in-Err-BadConditions.ensures.names c.in-Err-BadConditions.field-0-is can_be

pub returns-in-Ok : goal.returns-in-Ok
returns-in-Ok c = c.in-Ok.ensures.names ∙ named
