use Rattle.std.proofs.Common.{Err, ap}
use Rattle.workload.proofs.put.put.Goals as goal

pub unreachable-requires : goal.unreachable-requires
unreachable-requires c = c.in-Err-BadPath.ensures.bad.0 (ap Err c.in-Err-BadPath.field-0-is) c.requires
