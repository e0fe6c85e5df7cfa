use Rattle.std.proofs.Common.{Err, ap}
use Rattle.project_config.proofs.MeasureConfig.{is_measure_base, some_measure_base}
use Rattle.project_config.proofs.measured.measure_base.Goals as goal

pub unreachable-requires : goal.unreachable-requires
unreachable-requires c = some_measure_base (c.in-Err-BadBase.ensures.bad (ap Err c.in-Err-BadBase.field-0-is))

pub returns-in-Ok : goal.returns-in-Ok
returns-in-Ok c = is_measure_base c.in-Ok.base c.in-Ok.ensures.base
