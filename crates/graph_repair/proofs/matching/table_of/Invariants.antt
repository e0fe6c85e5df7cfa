use Rattle.std.proofs.Common.{◌-◌, length}
use Rattle.std.specs.HashMap as map
use Rattle.trace_spec.specs.Modules.{is_module}
use Rattle.graph_repair.proofs.KeyedPlaces.{AreBefore}
use Rattle.graph_repair.proofs.matching.table_of.Given as goal

-- the slots before this one are in the table
abbrev pub invariant-loop-place : goal.invariant-loop-place
invariant-loop-place l = AreBefore l.shown l.own (map.get is_module l.table) l.place

abbrev pub decreases-loop-place : goal.decreases-loop-place
decreases-loop-place l = length l.own - l.place
