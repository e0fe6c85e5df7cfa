use Rattle.std.proofs.Common.{length}
use Rattle.tree_model.proofs.entries.+place.Given as goal

abbrev pub decreases-place : goal.decreases-place
decreases-place l = length l.path.now
