use Rattle.std.proofs.Common.{◌≡◌, ◌++◌, length, map}
use Rattle.std.specs.Prelude.{flat_map}
use Rattle.graph_repair.specs.Leads.{place_in, targets_under}
use Rattle.graph_repair.proofs.leads.leads_of.Given as goal

-- what leads somewhere, and what is left
abbrev pub invariant-loop-slot : goal.invariant-loop-slot
invariant-loop-slot l =
    l.leads.items ++ map (place_in l.places.items) (flat_map (targets_under l.trace.graph) l.rest)
    ≡ map (place_in l.places.items) (flat_map (targets_under l.trace.graph) l.trace.slots)

abbrev pub decreases-loop-slot : goal.decreases-loop-slot
decreases-loop-slot l = length l.rest
