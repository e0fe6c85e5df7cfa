use Rattle.std.proofs.Common.{length}
use Rattle.node_resolve.proofs.legacy_main_resolve.+first_served.Given as goal

abbrev pub decreases-first_served : goal.decreases-first_served
decreases-first_served g l = length l.ends.now
