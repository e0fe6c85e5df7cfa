use Rattle.std.proofs.Common.{Err, ap}
use Rattle.generator_spec.proofs.MapPaths.{project_is_path}
use Rattle.generator_core.proofs.paths.project_path.Goals as goal

pub unreachable-requires : goal.unreachable-requires
unreachable-requires c = c.in-Err-BadPath.ensures.bad.0 (ap Err c.in-Err-BadPath.field-0-is) project_is_path
