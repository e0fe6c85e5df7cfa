use Rattle.std.proofs.Common.{◌≡◌, ◌++◌, map, take}
use Rattle.graph_repair.specs.Leads.{place_in}
use Rattle.graph_repair.proofs.leads.add_targets.Given as goal

-- the targets before this one lead where they do
abbrev pub invariant-loop-request : goal.invariant-loop-request
invariant-loop-request l = l.leads.items ≡ l.fn.leads.items ++ map (place_in l.places.items) (take l.request l.module.targets)
