use Rattle.std.proofs.Common.{◌≡◌, length}
use Rattle.session_watch.specs.Seen.{first_slot}
use Rattle.session_watch.proofs.mem_watch.first_at.Given as goal

-- none before the rest has the path
abbrev pub invariant-loop-module : goal.invariant-loop-module
invariant-loop-module l = first_slot l.path l.rest ≡ first_slot l.path l.modules

abbrev pub decreases-loop-module : goal.decreases-loop-module
decreases-loop-module l = length l.rest
