use Rattle.std.proofs.Common.{Err, ap}
use Rattle.project_config.proofs.NewProject.{page_is_path}
use Rattle.project_config.proofs.defaults.first_page.Goals as goal

pub unreachable-requires : goal.unreachable-requires
unreachable-requires c = c.in-Err-BadPath.ensures.bad.0 (ap Err c.in-Err-BadPath.field-0-is) page_is_path
