use Rattle.std.proofs.Common.{length}
use Rattle.node_resolve.proofs.builtin_names.+is_among.Given as goal

abbrev pub decreases-is_among : goal.decreases-is_among
decreases-is_among l = length l.names.now
