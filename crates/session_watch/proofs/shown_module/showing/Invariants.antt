use Rattle.std.proofs.Common.{◌≡◌, ◌++◌, length}
use Rattle.std.specs.Prelude.{All}
use Rattle.trace_graph.specs.Links.{IsLive}
use Rattle.session_watch.specs.Seen.{showing_of}
use Rattle.session_watch.proofs.shown_module.showing.Given as goal

-- what is shown, and what is left
abbrev pub invariant-loop-slot : goal.invariant-loop-slot
invariant-loop-slot l = (l.modules ++ showing_of l.view l.rest ≡ showing_of l.view l.slots) × All (IsLive l.view) l.rest

abbrev pub decreases-loop-slot : goal.decreases-loop-slot
decreases-loop-slot l = length l.rest
